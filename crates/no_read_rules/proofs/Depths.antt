-- A type is read by how many brackets may still be opened.
use Rattle.std.proofs.Common.{◌≡◌, ℕ, suc, zero, ◌<◌, ◌-◌, List, refl, arith}
use Rattle.no_lex.specs.declared.token.Token.{Token}
use Rattle.no_read_rules.specs.Rules.{plain, ◌>>=◌, checked}
use Rattle.no_read_rules.specs.Scope.{Meaning}
use Rattle.no_read_rules.specs.Types.{type_head, leaf_of, after_type_head, a_type}

pub type_none : (m : Meaning) (depth : ℕ) (tokens : List Token) → depth ≡ 0 → (a_type m depth).read tt tokens ≡ (checked (plain (type_head m)) leaf_of).read tt tokens
unfolding a_type
type_none m zero tokens e = refl
type_none m (suc depth) tokens e = absurd (omega arith)

pub type_more : (m : Meaning) (depth : ℕ) (tokens : List Token) → 0 < depth → (a_type m depth).read tt tokens ≡ (plain (type_head m) >>= after_type_head m (a_type m (depth - 1))).read tt tokens
unfolding a_type
type_more m zero tokens h = absurd (omega arith)
type_more m (suc depth) tokens h = let e : suc depth - 1 ≡ depth = omega arith in rw e refl
