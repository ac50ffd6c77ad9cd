-- What kept pages mean.
use Rattle.std.specs.Prelude.{ℕ, List, get_or, Option, Some, None}
use Rattle.std.specs.declared.alloc.Global.{Global}
use Rattle.std.specs.declared.boxed.Box.{Box}
use Rattle.no_pages.specs.declared.held.HeldPages.{HeldPages}

-- the bytes of a kept page, none where nothing is kept
abbrev pub bytes_of : Option (Box (List ℕ) Global) → Option (List ℕ)
bytes_of None = None
bytes_of (Some b) = Some b.value

-- the pages that slots keep, by number
abbrev pub kept_in : List (Option (Box (List ℕ) Global)) → ℕ → Option (List ℕ)
kept_in slots p = bytes_of (get_or slots p None)

-- the pages that are kept, by number
abbrev pub kept_of : HeldPages → ℕ → Option (List ℕ)
kept_of held = kept_in held.pages.items
