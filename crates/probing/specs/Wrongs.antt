-- What is said of a line that is no call.
use Rattle.std.specs.Prelude.{ℕ, List, codes}
use Rattle.probing.specs.declared.wrong.Wrong.{Wrong}
use Rattle.probing.specs.declared.wrong.Wrong.TheVariants.{Verb, Number, Count, Places, Bytes, Room}

abbrev pub wrong_said : Wrong → List ℕ
wrong_said Verb = codes "there is no such call"
wrong_said Number = codes "a word is no number, or is too large a number"
wrong_said Count = codes "the words are too few or too many"
wrong_said Places = codes "there are 65540 level places, and 524300 value places of each kind"
wrong_said Bytes = codes "bytes are written as pairs of hexadecimal digits, and no bytes as -"
wrong_said Room = codes "write is handed at most 1000000 bytes"
