-- Lists in brackets, with commas between their items.
use Rattle.std.specs.Prelude.{ℕ, Bool, true, false, List, [], ◌∷◌, Option, Some, None, Result, Ok, Err, codes, if◌then◌else◌}
use Rattle.no_lex.specs.declared.token.Token.{Token}
use Rattle.no_read_rules.specs.declared.fault.Flaw.{Flaw}
use Rattle.no_read_rules.specs.declared.fault.Flaw.TheVariants.{Syntax}
use Rattle.no_read_rules.specs.Rules.{Rule, plain, done, ◌>>=◌, choose, if_next}
use Rattle.no_read_rules.specs.Repeated.{repeat}
use Rattle.no_read_rules.specs.Spelled.{is_sign, a_sign}

-- behind an item: whether the list closes, or goes on with a comma
abbrev pub closes_list : List ℕ → List ℕ → Token → Result Bool Flaw
closes_list text close token = if is_sign text close token then Ok true else (if is_sign text (codes ",") token then Ok false else Err Syntax)

module _ {S A : Type 0} where
  -- the next item, or nothing where the list closes
  unfoldable pub more_item : List ℕ → List ℕ → Rule S A → Rule S (Option A)
  more_item text close item = do
    closes ← plain (closes_list text close)
    choose closes (done None) (item >>= λ a. done (Some a))

  -- at least one item, and the closing sign
  unfoldable pub some_items : List ℕ → List ℕ → Rule S A → Rule S (List A)
  some_items text close item = do
    first ← item
    others ← repeat (more_item text close item)
    done (first ∷ others)

  -- the closing sign alone
  unfoldable pub no_items : List ℕ → List ℕ → Rule S (List A)
  no_items text close = a_sign text close >>= λ _. done []

  -- items with commas between them, and the closing sign; there may be none
  unfoldable pub items : List ℕ → List ℕ → Rule S A → Rule S (List A)
  items text close item = if_next (is_sign text close) (no_items text close) (some_items text close item)
