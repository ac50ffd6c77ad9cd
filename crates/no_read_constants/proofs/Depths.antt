-- A constant is read by how many brackets may still be opened.
use Rattle.std.proofs.Common.{◌≡◌, ℕ, suc, zero, ◌<◌, ◌-◌, true, false, List, refl, arith}
use Rattle.no_lex.specs.declared.token.Token.{Token}
use Rattle.no_ir.specs.declared.types.Ty.{Ty}
use Rattle.no_read_rules.specs.Rules.{next_is}
use Rattle.no_read_rules.specs.Scope.{Meaning}
use Rattle.no_read_constants.specs.Places.{begins_place}
use Rattle.no_read_constants.specs.Constants.{flat_const, bracket_const, address, a_const}

pub const_place : (m : Meaning) (depth : ℕ) (ty : Ty) (tokens : List Token) → next_is (begins_place m.text) tokens ≡ true → (a_const m depth ty).read tt tokens ≡ (address m depth).read tt tokens
unfolding a_const
const_place m zero ty tokens e = rw e refl
const_place m (suc depth) ty tokens e = rw e refl

pub const_none : (m : Meaning) (depth : ℕ) (ty : Ty) (tokens : List Token) → next_is (begins_place m.text) tokens ≡ false → depth ≡ 0
    → (a_const m depth ty).read tt tokens ≡ (flat_const m ty).read tt tokens
unfolding a_const
const_none m zero ty tokens e d = rw e refl
const_none m (suc depth) ty tokens e d = absurd (omega arith)

pub const_more : (m : Meaning) (depth : ℕ) (ty : Ty) (tokens : List Token) → next_is (begins_place m.text) tokens ≡ false → 0 < depth
    → (a_const m depth ty).read tt tokens ≡ (bracket_const m (depth - 1) (a_const m (depth - 1)) ty).read tt tokens
unfolding a_const
const_more m zero ty tokens e h = absurd (omega arith)
const_more m (suc depth) ty tokens e h = let d : suc depth - 1 ≡ depth = omega arith in rw (d, e) refl
