-- What a line without numbers is told as.
use Rattle.scripts.specs.declared.numbers.NoNumbers.{NoNumbers}
use Rattle.scripts.specs.declared.numbers.NoNumbers.TheVariants.{NotANumber, NoMemory}
use Rattle.probing.specs.declared.wrong.Wrong.TheVariants.{Number}
use Rattle.probing.specs.declared.wrong.Halt.{Halt}
use Rattle.probing.specs.declared.wrong.Halt.TheVariants.{NoCall, Memory}

abbrev pub halted : NoNumbers → Halt
halted NotANumber = NoCall Number
halted (NoMemory e) = Memory e
