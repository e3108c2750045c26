-- Laws of numbers of a width, proved. Assumes nothing.
use Rattle.words.specs.WordLaws.{WordLaws}
use Rattle.words.proofs.Numbers.{numbers_back, numbers_read, numbers_behind}

pub word_laws : WordLaws
word_laws = record { numbers_back = numbers_back; numbers_read = numbers_read; numbers_behind = numbers_behind }
