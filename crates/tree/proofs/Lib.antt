mod Anys
mod Branches
