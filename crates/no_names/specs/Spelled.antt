-- Names by the one spelling that the printer gives them.
use Rattle.std.specs.Prelude.{ℕ, ◌<◌, List, [], ◌∷◌, Option, Some, None, bytes_eq, if◌then◌else◌}
use Rattle.no_read_rules.specs.Unescaped.{name_of}
use Rattle.no_print.specs.Names.{spelling}

-- each byte is below 256
abbrev pub AreBytes : List ℕ → Type 0
AreBytes [] = Unit {0}
AreBytes (b ∷ bytes) = (b < 256) × AreBytes bytes

-- the name whose one spelling a text is: the one that it is read as, where that is spelled so
abbrev pub name_by : List ℕ → Option (List ℕ)
name_by text = if bytes_eq (spelling (name_of text)) text then Some (name_of text) else None
