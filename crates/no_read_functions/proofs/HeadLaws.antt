-- The laws of parameters and heads.
use Rattle.std.proofs.Common.{◌≡◌, ℕ, ◌<◌, Bool, true, false, ◌||◌, ◌⊎◌, List, [], ◌∷◌, ◌++◌, ◌==◌, length, codes, bytes_eq, ◌&&◌, if◌then◌else◌, Option, Some, None, Result, Ok, Err, inl, inr, refl, sym, ap, subst, ◌∙◌, append_assoc}
use Rattle.std.proofs.lemmas.Slice.Eq.{bytes_eq-Decides}
use Rattle.no_lex.specs.declared.token.Token.{Token}
use Rattle.no_lex.specs.declared.token.TokenKind.{TokenKind}
use Rattle.no_lex.specs.declared.token.TokenKind.TheVariants as kind
use Rattle.no_ir.specs.declared.function.Role.{Role}
use Rattle.no_ir.specs.declared.types.Ty.{Ty}
use Rattle.no_ir.specs.declared.types.Ty.TheVariants as ty
use Rattle.no_read_rules.specs.declared.fault.Flaw.{Flaw}
use Rattle.no_read_rules.specs.declared.fault.Flaw.TheVariants.{Syntax}
use Rattle.no_read_rules.specs.declared.fault.Stop.{Stop}
use Rattle.no_read_rules.specs.declared.fault.Stopped.{Stopped}
use Rattle.no_read_rules.specs.Lists.{closes_list, more_item}
use Rattle.no_read_rules.specs.Repeated.{repeat_all, with_front}
use Rattle.no_read_rules.specs.Rules.{Rule, keeping, plain, done, ◌>>=◌, lift, choose, if_next, maybe, next_is, Avoids, Fails, none, Good, IsSolid}
use Rattle.no_read_rules.specs.Scope.{Meaning}
use Rattle.no_read_rules.specs.Spelled.{kind_number, is_kind, is_word, is_sign, a_word, only_where, spelled}
use Rattle.no_read_rules.specs.Types.{a_type}
use Rattle.no_read_rules.proofs.Laws.{once, plain_good, plain_solid, done_good, lift_good, lift_solid, choose_good, either_good, then_good, follow_good, first_solid, if_next_good, if_next_solid}
use Rattle.no_read_rules.proofs.Repeats as repeats
use Rattle.no_read_rules.proofs.TypeLaws.{type_good, type_solid}
use Rattle.no_read_attributes.specs.Attributes.{begins_attribute, begins_by, may_go_on, behind_attributes, skip_attributes, attribute_marks}
use Rattle.no_read_attributes.proofs.AttributeLaws.{skip_good, marks_good, behind_good, behind_solid}
use Rattle.no_read_attributes.proofs.EndLaws.{avoids_less, done_apart}
use Rattle.no_read_attributes.specs.Symbols.{symbol_name}
use Rattle.no_read_registers.specs.declared.locals.Locals.{Locals}
use Rattle.no_read_registers.specs.Numbered.{a_definition, no_name}
use Rattle.no_read_registers.proofs.LocalLaws.{definition_good, definition_solid, no_name_good}
use Rattle.no_read_functions.specs.declared.heads.Head.{Head}
use Rattle.no_read_functions.specs.Heads.{any_name, or_no_name, own_name, place_name, param_name, a_param, param_goes_on, params, result_type, words_type, head_marks, a_head}
use Rattle.no_read_functions.proofs.ClosedLists as closed

abbrev is_local : Token → Bool
is_local = is_kind kind.Local

weak : (g : Token → Bool) {S A : Type 0} (p : Rule S A) → Good none p → Good g p
weak g p l = record { found = l.found; only = λ s t used rest a m av. l.only s t used rest a m (never rest) }
  where
    never : (rest : List Token) → Avoids none rest
    never [] = refl
    never (r ∷ rest) = refl

-- ---- names of parameters

maybe_good : {A : Type 0} (p : Rule Locals A) → Good none p → IsSolid p → Good is_local (maybe is_local p)
maybe_good p l s = either_good is_local (p >>= λ a. done (Some a)) None (then_good none _ _ l (λ a. done_good none (Some a))) (first_solid p (λ a. done (Some a)) s)

-- what takes no token
empty_apart : (av : Token → Bool) (used rest : List Token) → used ≡ [] → Avoids av rest → Avoids av (used ++ rest)
empty_apart av used rest e out = subst (λ (l : List Token). Avoids av (l ++ rest)) (sym e) out

or_good : (o : Option ℕ) → Good is_local (or_no_name o)
or_good (Some register) = done_good is_local register
or_good None = weak is_local no_name no_name_good

or_empty : (o : Option ℕ) (s t : Locals) (used : List Token) (b : ℕ) → (or_no_name o).means s used b t → used ≡ []
or_empty (Some register) s t used b m = m.0
or_empty None s t used b m = m.0

own_good : (text : List ℕ) → Good is_local (own_name text)
unfolding own_name
own_good text = follow_good is_local is_local (maybe is_local (a_definition text)) or_no_name (maybe_good (a_definition text) (definition_good text) (definition_solid text)) or_good
    (λ o s t used rest b m out. empty_apart is_local used rest (or_empty o s t used b m) out)

place_good : Good is_local place_name
unfolding place_name
place_good = follow_good is_local is_local (maybe is_local any_name) (λ _. no_name) (maybe_good any_name (plain_good _) (plain_solid _)) (λ _. weak is_local no_name no_name_good)
    (λ o s t used rest b m out. empty_apart is_local used rest m.0 out)

name_good : (text : List ℕ) (named : Bool) → Good is_local (param_name text named)
name_good text named = choose_good is_local named (own_name text) place_name (own_good text) place_good

abbrev Named : List Token → Type 0
Named used = (used ≡ []) ⊎ (next_is is_local used ≡ true)

maybe_named : {A : Type 0} (p : Rule Locals A) (s t : Locals) (used : List Token) (o : Option A) → (maybe is_local p).means s used o t → Named used
maybe_named p s t used o (inl m) = inr m.0
maybe_named p s t used o (inr m) = inl m.1.0

behind_named : (used front back : List Token) → used ≡ front ++ back → back ≡ [] → Named front → Named used
behind_named used [] back parts e (inl f) = inl (parts ∙ e)
behind_named used (u ∷ front) back parts e (inl f) = absurd cc
behind_named used [] back parts e (inr f) = absurd cc
behind_named used (u ∷ front) back parts e (inr f) = inr (ap (next_is is_local) parts ∙ f)

own_named : (text : List ℕ) (s t : Locals) (used : List Token) (b : ℕ) → (own_name text).means s used b t → Named used
unfolding own_name
own_named text s t used b m = behind_named used m.front m.back m.parts (or_empty m.first m.between t m.back b m.in_back) (maybe_named (a_definition text) s m.between m.front m.first m.in_front)

place_named : (s t : Locals) (used : List Token) (b : ℕ) → place_name.means s used b t → Named used
unfolding place_name
place_named s t used b m = behind_named used m.front m.back m.parts m.in_back.0 (maybe_named any_name s m.between m.front m.first m.in_front)

name_named : (text : List ℕ) (named : Bool) (s t : Locals) (used : List Token) (b : ℕ) → (param_name text named).means s used b t → Named used
name_named text true s t used b m = own_named text s t used b m
name_named text false s t used b m = place_named s t used b m

-- ---- tokens

local_apart : (text : List ℕ) (t : Token) → is_local t ≡ true → may_go_on text t ≡ false
local_apart text t is = by t.kind is
  where
    by : (k : TokenKind) → (kind_number k == 3) ≡ true → may_go_on text (record { kind = k; start = t.start; end = t.end }) ≡ false
    by kind.Word is = absurd cc
    by kind.Integer is = absurd cc
    by kind.Global is = absurd cc
    by kind.Local is = refl
    by kind.Group is = absurd cc
    by kind.Meta is = absurd cc
    by kind.Quoted is = absurd cc
    by kind.CMark is = absurd cc
    by kind.Sign is = absurd cc
    by kind.Label is = absurd cc

both_false : (b c : Bool) → (b || c) ≡ false → (b ≡ false) × (c ≡ false)
both_false true c e = absurd cc
both_false false c e = (refl, e)

more_than_attributes : (text : List ℕ) (t : Token) → param_goes_on text t ≡ false → may_go_on text t ≡ false
more_than_attributes text t out = (both_false (may_go_on text t) (is_local t) out).0

more_than_local : (text : List ℕ) (t : Token) → param_goes_on text t ≡ false → is_local t ≡ false
more_than_local text t out = (both_false (may_go_on text t) (is_local t) out).1

named_apart : (text : List ℕ) (used rest : List Token) → Named used → Avoids (param_goes_on text) rest → Avoids (may_go_on text) (used ++ rest)
named_apart text [] rest n out = avoids_less (may_go_on text) (param_goes_on text) (more_than_attributes text) rest out
named_apart text (u ∷ used) rest (inl e) out = absurd cc
named_apart text (u ∷ used) rest (inr is) out = local_apart text u is

-- ---- parameters

less_good : {S A : Type 0} (g h : Token → Bool) (p : Rule S A) → ((t : Token) → h t ≡ false → g t ≡ false) → Good g p → Good h p
less_good g h p less l = record { found = l.found; only = λ s t used rest a m out. l.only s t used rest a m (avoids_less g h less rest out) }

param_good : (m : Meaning) (named : Bool) → Good (param_goes_on m.text) (a_param m named)
unfolding a_param
param_good m named = then_good (param_goes_on m.text) _ _ (lift_good none (a_type m 64) (type_good m 64)) (λ t.
    follow_good (may_go_on m.text) (param_goes_on m.text) (lift (skip_attributes m.text)) (λ _. param_name m.text named >>= λ register. done (register, t)) (lift_good (may_go_on m.text) (skip_attributes m.text) (skip_good m.text))
    (λ _. follow_good (param_goes_on m.text) (param_goes_on m.text) (param_name m.text named) (λ register. done (register, t))
    (less_good is_local (param_goes_on m.text) (param_name m.text named) (more_than_local m.text) (name_good m.text named)) (λ register. done_good (param_goes_on m.text) (register, t))
    (λ register s u used rest b k out. done_apart (param_goes_on m.text) (register, t) s u used rest b k out))
    (λ _ s u used rest b k out. named_apart m.text used rest (behind_named used k.front k.back k.parts k.in_back.0 (name_named m.text named s k.between k.front k.first k.in_front)) out))

param_solid : (m : Meaning) (named : Bool) → IsSolid (a_param m named)
unfolding a_param
param_solid m named = first_solid _ _ (lift_solid (a_type m 64) (type_solid m 64))

-- a sign is no other one
pub sign_other : (text a b : List ℕ) (t : Token) → bytes_eq a b ≡ false → is_sign text a t ≡ true → is_sign text b t ≡ false
sign_other text a b t differ is = by (is_kind kind.Sign t) refl is
  where
    by : (c : Bool) → is_kind kind.Sign t ≡ c → (c && bytes_eq (spelled text t) a) ≡ true → is_sign text b t ≡ false
    by false e is = absurd cc
    by true e is =
        let equal : bytes_eq (spelled text t) a ≡ true = is in
        let same : spelled text t ≡ a = (bytes_eq-Decides (spelled text t) a).0 equal in
        rw (e, same) differ

is_a_sign : (text a : List ℕ) (t : Token) → is_sign text a t ≡ true → is_kind kind.Sign t ≡ true
is_a_sign text a t is = by (is_kind kind.Sign t) is
  where
    by : (c : Bool) → (c && bytes_eq (spelled text t) a) ≡ true → c ≡ true
    by true is = refl
    by false is = absurd cc

no_sign : (text : List ℕ) (t : Token) → is_kind kind.Sign t ≡ true → (begins_attribute text t ≡ false) × (is_kind kind.Integer t ≡ false) × (is_local t ≡ false)
no_sign text t is = by t.kind is
  where
    by : (k : TokenKind) → (kind_number k == 8) ≡ true
        → (begins_by k (spelled text t) ≡ false) × ((kind_number k == 1) ≡ false) × ((kind_number k == 3) ≡ false)
    by kind.Word is = absurd cc
    by kind.Integer is = absurd cc
    by kind.Global is = absurd cc
    by kind.Local is = absurd cc
    by kind.Group is = absurd cc
    by kind.Meta is = absurd cc
    by kind.Quoted is = absurd cc
    by kind.CMark is = absurd cc
    by kind.Sign is = (refl, refl, refl)
    by kind.Label is = absurd cc

-- with a sign but an opening bracket and `=`, no parameter and no attributes go on
pub sign_ends : (text a : List ℕ) (t : Token) → bytes_eq a (codes "(") ≡ false → bytes_eq a (codes "=") ≡ false → is_sign text a t ≡ true → param_goes_on text t ≡ false
sign_ends text a t x y is =
    let k = no_sign text t (is_a_sign text a t is) in
    let o = sign_other text a (codes "(") t x is in
    let e = sign_other text a (codes "=") t y is in
    rw (k.0, k.1, k.2, o, e) refl

sign_apart : (text : List ℕ) (t : Token) (b : Bool) → closes_list text (codes ")") t ≡ Ok b → param_goes_on text t ≡ false
sign_apart text t b e = go (is_sign text (codes ")") t) (is_sign text (codes ",") t) refl refl e
  where
    go : (c d : Bool) → is_sign text (codes ")") t ≡ c → is_sign text (codes ",") t ≡ d → (if c then Ok true else (if d then Ok false else Err Syntax)) ≡ Ok b → param_goes_on text t ≡ false
    go true d ec ed e = sign_ends text (codes ")") t refl refl ec
    go false true ec ed e = sign_ends text (codes ",") t refl refl ed
    go false false ec ed e = absurd cc

pub params_good : (m : Meaning) (named : Bool) → Good none (params m named)
unfolding params
params_good m named = then_good none _ _ (plain_good _) (λ _. closed.closed_good m.text (codes ")") (param_goes_on m.text) (a_param m named) (param_good m named) (param_solid m named) (sign_apart m.text))

-- ---- heads

result_good : (m : Meaning) → Good none (result_type m)
unfolding result_type
result_good m = if_next_good none _ _ _ (then_good none _ _ (plain_good _) (λ _. done_good none ty.Void)) (type_good m 64) (first_solid _ _ (plain_solid _)) (type_solid m 64)

result_solid : (m : Meaning) → IsSolid (result_type m)
unfolding result_type
result_solid m = if_next_solid (is_word m.text (codes "void")) (a_word m.text (codes "void") >>= λ _. done ty.Void) (a_type m 64) (first_solid (a_word m.text (codes "void")) (λ _. done ty.Void) (plain_solid _)) (type_solid m 64)

words_good : (m : Meaning) → Good none (words_type m)
unfolding words_type
words_good m = behind_good m.text none (result_type m) (result_good m) (result_solid m)

words_solid : (m : Meaning) → IsSolid (words_type m)
unfolding words_type
words_solid m = behind_solid m.text (result_type m) (result_solid m)

kept_good : (m : Meaning) (role : Role) → Good (may_go_on m.text) (head_marks m role)
unfolding head_marks
kept_good m role = marks_good m.text role

pub head_good : (m : Meaning) (role : Role) (named : Bool) → Good (may_go_on m.text) (a_head m role named)
unfolding a_head
head_good m role named = then_good (may_go_on m.text) _ _ (lift_good none (words_type m) (words_good m)) (λ result.
    then_good (may_go_on m.text) _ _ (lift_good none (plain (symbol_name m.text)) (plain_good (symbol_name m.text))) (λ name. then_good (may_go_on m.text) _ _ (params_good m named) (λ all.
    follow_good (may_go_on m.text) (may_go_on m.text) (lift (head_marks m role)) (λ marks. done (record { name = name; result = result; params = all; marks = marks }))
    (lift_good (may_go_on m.text) (head_marks m role) (kept_good m role)) (λ marks. done_good (may_go_on m.text) _) (λ marks s t used rest b k out. done_apart (may_go_on m.text) _ s t used rest b k out))))

pub head_solid : (m : Meaning) (role : Role) (named : Bool) → IsSolid (a_head m role named)
unfolding a_head
head_solid m role named = first_solid _ _ (lift_solid (words_type m) (words_solid m))

-- ---- the loop over parameters

module _ (m : Meaning) (named : Bool) where
  abbrev step : Rule Locals (Option (ℕ × Ty))
  step = more_item m.text (codes ")") (a_param m named)

  step_good : Good (param_goes_on m.text) step
  step_good = closed.step_good m.text (codes ")") (param_goes_on m.text) (a_param m named) (param_good m named) (param_solid m named) (sign_apart m.text)

  step_solid : IsSolid step
  step_solid = closed.step_solid m.text (codes ")") (param_goes_on m.text) (a_param m named) (param_good m named) (param_solid m named) (sign_apart m.text)

  pub params_fail : (e : Stop) (front : List (ℕ × Ty)) (s : Locals) (tokens : List Token) (total : Result (List (ℕ × Ty) × Locals × List Token) Stopped) → Fails e (step.read s tokens) → with_front front (repeat_all step s tokens) ≡ total → Fails e total
  params_fail e front s tokens total f so_far = repeats.fails (param_goes_on m.text) step step_good step_solid e front s tokens total f so_far

  pub params_stop : (front : List (ℕ × Ty)) (s t : Locals) (tokens rest : List Token) (o : Option (ℕ × Ty)) (total : Result (List (ℕ × Ty) × Locals × List Token) Stopped) → step.read s tokens ≡ Ok (o, t, rest) → o ≡ None
      → with_front front (repeat_all step s tokens) ≡ total → total ≡ Ok (front, t, rest)
  params_stop front s t tokens rest o total e is so_far = repeats.stops (param_goes_on m.text) step step_good step_solid front s t tokens rest o total e is so_far

  pub params_fall : (s t : Locals) (tokens rest : List Token) (o : Option (ℕ × Ty)) → step.read s tokens ≡ Ok (o, t, rest) → length rest < length tokens
  params_fall s t tokens rest o e = repeats.shorter (param_goes_on m.text) step step_good step_solid s t tokens rest o e

  pub params_go : (front : List (ℕ × Ty)) (s t : Locals) (tokens aft : List Token) (o : Option (ℕ × Ty)) (a : ℕ × Ty) (total : Result (List (ℕ × Ty) × Locals × List Token) Stopped) → step.read s tokens ≡ Ok (o, t, aft) → o ≡ Some a
      → with_front front (repeat_all step s tokens) ≡ total → with_front (front ++ a ∷ []) (repeat_all step t aft) ≡ total
  params_go front s t tokens aft o a total e is so_far = repeats.goes_on (param_goes_on m.text) step step_good step_solid front s t tokens aft o a total e is so_far

-- ---- what a sign begins

kept_true : {S : Type 0} (s t : S) (u : Unit {0}) (b : Bool) → keeping s (only_where b) ≡ Ok (u, t) → b ≡ true
kept_true s t u true e = refl
kept_true s t u false e = absurd cc

either_false : (b c : Bool) → (b || c) ≡ false → b ≡ false
either_false true c e = absurd cc
either_false false c e = refl

module _ {S A B : Type 0} (av : Token → Bool) (f : Token → Result A Flaw) (q : A → Rule S B) (apart : (t : Token) (s u : S) (a : A) → keeping s (f t) ≡ Ok (a, u) → av t ≡ false) where
  -- what begins with one token that the other rule doesn't go on with
  pub one_apart : (s t : S) (used rest : List Token) (b : B) → (plain f >>= q).means s used b t → Avoids av (used ++ rest)
  one_apart s t used rest b m = subst (λ (l : List Token). Avoids av (l ++ rest)) (sym (m.parts ∙ ap (λ (l : List Token). l ++ m.back) m.in_front.alone)) (apart m.in_front.token s m.between m.first m.in_front.value)

-- a sign but an opening bracket and `=` ends attributes
pub sign_out : {S : Type 0} (text a : List ℕ) → bytes_eq a (codes "(") ≡ false → bytes_eq a (codes "=") ≡ false → (t : Token) (s u : S) (x : Unit {0}) → keeping s (only_where (is_sign text a t)) ≡ Ok (x, u) → may_go_on text t ≡ false
sign_out text a o e t s u x k = either_false (may_go_on text t) (is_kind kind.Local t) (sign_ends text a t o e (kept_true s u x (is_sign text a t) k))
