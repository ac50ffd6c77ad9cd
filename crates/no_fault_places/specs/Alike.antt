-- Texts that begin alike: their tokens are of the same kinds and spelled by the same bytes, wherever they stand.
use Rattle.std.specs.Prelude.{◌≡◌, ℕ, ◌<◌, length, true, List, [], ◌∷◌, Some, slice_get}
use Rattle.no_lex.specs.declared.token.Token.{Token}
use Rattle.no_lex.specs.declared.token.TokenKind.TheVariants.{Local}
use Rattle.no_ir.specs.declared.types.Ty.{Ty}
use Rattle.no_module.specs.Formed.{type_formed}
use Rattle.no_read_rules.specs.Scope.{Meaning}
use Rattle.no_read_rules.specs.Spelled.{spelled}
use Rattle.no_read_rules.specs.Types.{number_in}

-- a token of a text, and one of another text that is of its kind and spelled by its bytes, and means the same type where it is the name of one
pub record IsAlike (here there : Meaning) (t u : Token) : Type 0 where
  pub kind : u.kind ≡ t.kind
  pub spelling : spelled there.text u ≡ spelled here.text t
  pub number : t.kind ≡ Local → number_in there.named (spelled here.text t) ≡ number_in here.named (spelled here.text t)

-- the same of all tokens of two lists, one by one
abbrev pub AreAlike : Meaning → Meaning → List Token → List Token → Type 0
AreAlike here there [] [] = Unit {0}
AreAlike here there [] (u ∷ us) = ⊥
AreAlike here there (t ∷ ts) [] = ⊥
AreAlike here there (t ∷ ts) (u ∷ us) = IsAlike here there t u × AreAlike here there ts us

-- the named types of a text, each of which refers to those alone, are those of the other text, which may have more of them
pub record IsTypedAlike (here there : Meaning) : Type 0 where
  pub same : (k : ℕ) → k < length here.named → slice_get there.types k ≡ slice_get here.types k
  pub formed : (k : ℕ) (t : Ty) → k < length here.named → slice_get here.types k ≡ Some t → type_formed (length here.named) t ≡ true
