-- The classes of bytes by their names in the code.
use Rattle.std.specs.Prelude.{ℕ, Bool}
use Rattle.ff_prog.specs.declared.byte_class.ByteClass.{ByteClass}
use Rattle.ff_prog.specs.declared.byte_class.ByteClass.TheVariants.{Space, InWord, Told, Blank, InName}
use Rattle.ff_prog.specs.Words.{is_space, is_in_word, is_told, is_blank, is_in_name}

abbrev pub is_of : ByteClass → ℕ → Bool
is_of Space = is_space
is_of InWord = is_in_word
is_of Told = is_told
is_of Blank = is_blank
is_of InName = is_in_name
