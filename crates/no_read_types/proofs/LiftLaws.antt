-- The laws of lifting: what is read is meant, and what is meant is read.
use Rattle.std.proofs.Common.{◌≡◌, ℕ, suc, zero, ◌<◌, ◌≤◌, ◌-◌, Bool, true, false, List, [], ◌∷◌, ◌++◌, length, get_or, take, drop, Result, Ok, Err, refl, sym, ap, ◌∙◌, append_assoc, append-nil, arith, true≢false}
use Rattle.std.proofs.lemmas.List.{length-append}
use Rattle.no_lex.specs.declared.token.Token.{Token}
use Rattle.no_read_rules.specs.declared.fault.Stopped.{Stopped}
use Rattle.no_read_rules.specs.declared.fault.Stop.{Stop}
use Rattle.no_read_rules.specs.declared.fault.Stop.TheVariants as stop
use Rattle.no_read_rules.specs.Rules.{after, Fails, none, Good, IsSolid}
use Rattle.no_read_rules.specs.Scope.{Meaning}
use Rattle.no_read_rules.proofs.Laws.{after_ok, avoids_none, one_good, one_solid, plain_good, done_good, lift_good, then_good, first_solid, checked_good}
use Rattle.no_read_rules.proofs.TypeLaws.{type_good}
use Rattle.no_read_types.specs.declared.definition.Definition.{Definition}
use Rattle.no_read_types.specs.declared.definition.Lifting.{Lifting}
use Rattle.no_read_types.specs.Lifting.{begins_definition, a_definition, Piece, Kept, Defined, ArePieces, nothing_lifted, with_definition, with_token, lifting_of, Parted, lift_step, lift_read, lift_all, behind}

pub definition_good : (m : Meaning) → Good none (a_definition m)
unfolding a_definition
definition_good m = then_good none _ _ (one_good _) (λ head. then_good none _ _ (lift_good none _ (plain_good _)) (λ _. then_good none _ _ (lift_good none _ (plain_good _)) (λ _. then_good none _ _ (checked_good none _ _ (lift_good none _ (type_good m 64))) (λ ty. done_good none _))))

definition_solid : (m : Meaning) → IsSolid (a_definition m)
unfolding a_definition
definition_solid m = first_solid _ _ (one_solid _)

abbrev More : Type 0
More = List (List ℕ) → List Token → Result Lifting Stopped

abbrev okay : Lifting → Result Lifting Stopped
okay l = Ok l

from_okay : (k l : Lifting) → okay k ≡ okay l → k ≡ l
from_okay k l e = cc

-- a definition takes tokens
pub definition_falls : (m : Meaning) (names : List (List ℕ)) (tokens : List Token) (x : Definition × List (List ℕ) × List Token) → (a_definition m).read names tokens ≡ Ok x → length x.2 < length tokens
definition_falls m names tokens x e = let f = (definition_good m).found names tokens x e in go f.used f.parts f.meant
  where
    go : (used : List Token) → tokens ≡ used ++ x.2 → (a_definition m).means names used x.0 x.1 → length x.2 < length tokens
    go [] parts meant = absurd (definition_solid m names x.1 x.0 meant)
    go (t ∷ used) parts meant = omega (arith, ap length parts, length-append used x.2)

-- ---- how many steps are allowed makes no difference

abbrev Agree : ℕ → More → More → Type 0
Agree n f g = (names : List (List ℕ)) (tokens : List Token) → length tokens < n → f names tokens ≡ g names tokens

by_read : (m : Meaning) (names : List (List ℕ)) (tokens : List Token) (f g : More) (r : Result (Definition × List (List ℕ) × List Token) Stopped) → (a_definition m).read names tokens ≡ r → Agree (length tokens) f g
    → after r (λ x. after (f x.1 x.2) (λ l. Ok (with_definition x.0 l))) ≡ after r (λ x. after (g x.1 x.2) (λ l. okay (with_definition x.0 l)))
by_read m names tokens f g (Ok x) e same = ap (λ r. after r (λ l. okay (with_definition x.0 l))) (same x.1 x.2 (definition_falls m names tokens x e))
by_read m names tokens f g (Err d) e same = refl

by_step : (m : Meaning) (names : List (List ℕ)) (t : Token) (ts : List Token) (f g : More) (b : Bool) → Agree (suc (length ts)) f g → lift_step m f b names t ts ≡ lift_step m g b names t ts
by_step m names t ts f g true same = by_read m names (t ∷ ts) f g ((a_definition m).read names (t ∷ ts)) refl same
by_step m names t ts f g false same = ap (λ r. after r (λ l. okay (with_token t l))) (same names ts (omega arith))

fuel : (n k : ℕ) (m : Meaning) (names : List (List ℕ)) (tokens : List Token) → length tokens ≤ n → length tokens ≤ k → lift_read n m names tokens ≡ lift_read k m names tokens
unfolding lift_read
fuel n k m names [] h j = refl
fuel zero k m names (t ∷ ts) h j = absurd (omega arith)
fuel (suc n) zero m names (t ∷ ts) h j = absurd (omega arith)
fuel (suc n) (suc k) m names (t ∷ ts) h j = by_step m names t ts (lift_read n m) (lift_read k m) (begins_definition m.text (t ∷ ts)) (λ s us lt. fuel n k m s us (omega arith) (omega arith))

lift_is : (m : Meaning) (names : List (List ℕ)) (t : Token) (ts : List Token) → lift_all m names (t ∷ ts) ≡ lift_step m (lift_all m) (begins_definition m.text (t ∷ ts)) names t ts
unfolding lift_read lift_all
lift_is m names t ts = by_step m names t ts (lift_read (length ts) m) (lift_all m) (begins_definition m.text (t ∷ ts)) (λ s us lt. fuel (length ts) (length us) m s us (omega arith) (omega arith))

lift_none : (m : Meaning) (names : List (List ℕ)) → lift_all m names [] ≡ Ok nothing_lifted
unfolding lift_read lift_all
lift_none m names = refl

lift_kept : (m : Meaning) (names : List (List ℕ)) (t : Token) (ts : List Token) → begins_definition m.text (t ∷ ts) ≡ false → lift_all m names (t ∷ ts) ≡ after (lift_all m names ts) (λ l. okay (with_token t l))
lift_kept m names t ts is = lift_is m names t ts ∙ ap (λ b. lift_step m (lift_all m) b names t ts) is

lift_defined : (m : Meaning) (names : List (List ℕ)) (tokens : List Token) → begins_definition m.text tokens ≡ true
    → lift_all m names tokens ≡ after ((a_definition m).read names tokens) (λ x. after (lift_all m x.1 x.2) (λ l. okay (with_definition x.0 l)))
lift_defined m names [] is = absurd (true≢false (sym is))
lift_defined m names (t ∷ ts) is = lift_is m names t ts ∙ ap (λ b. lift_step m (lift_all m) b names t ts) is

-- ---- the steps of the loop

take_whole : {A : Type 0} (xs : List A) → take (length xs) xs ≡ xs
take_whole [] = refl
take_whole (x ∷ xs) = ap (λ ys. x ∷ ys) (take_whole xs)

-- the first of some tokens, and the others
pub parted : {A : Type 0} (d : A) (xs : List A) → 1 ≤ length xs → xs ≡ get_or xs 0 d ∷ take (length xs - 1) (drop 1 xs)
parted d [] h = absurd (omega arith)
parted d (x ∷ xs) h = let n : length (x ∷ xs) - 1 ≡ length xs = omega arith in rw n (ap (λ ys. x ∷ ys) (sym (take_whole xs)))

pub nothing : {A : Type 0} (xs : List A) → length xs < 1 → xs ≡ []
nothing [] h = refl
nothing (x ∷ xs) h = absurd (omega arith)

regroup_kept : (defined : List Definition) (kept : List Token) (t : Token) (r : Result Lifting Stopped) → behind defined kept (after r (λ l. okay (with_token t l))) ≡ behind defined (kept ++ t ∷ []) r
regroup_kept defined kept t (Ok l) = rw (append_assoc kept (t ∷ []) l.kept) refl
regroup_kept defined kept t (Err d) = refl

regroup_defined : (defined : List Definition) (kept : List Token) (d : Definition) (r : Result Lifting Stopped) → behind defined kept (after r (λ l. okay (with_definition d l))) ≡ behind (defined ++ d ∷ []) kept r
regroup_defined defined kept d (Ok l) = rw (append_assoc defined (d ∷ []) l.defined) refl
regroup_defined defined kept d (Err e) = refl

pub goes_kept : (m : Meaning) (defined : List Definition) (kept : List Token) (names : List (List ℕ)) (tokens : List Token) (t : Token) (ts : List Token) (total : Result Lifting Stopped)
    → tokens ≡ t ∷ ts → false ≡ begins_definition m.text tokens → behind defined kept (lift_all m names tokens) ≡ total → behind defined (kept ++ t ∷ []) (lift_all m names ts) ≡ total
goes_kept m defined kept names tokens t ts total parts is so_far =
    let first : lift_all m names tokens ≡ after (lift_all m names ts) (λ l. okay (with_token t l)) = ap (lift_all m names) parts ∙ lift_kept m names t ts (ap (begins_definition m.text) (sym parts) ∙ sym is) in
    sym (regroup_kept defined kept t (lift_all m names ts)) ∙ ap (behind defined kept) (sym first) ∙ so_far

pub goes_defined : (m : Meaning) (defined : List Definition) (kept : List Token) (names between : List (List ℕ)) (tokens back : List Token) (d : Definition) (total : Result Lifting Stopped)
    → true ≡ begins_definition m.text tokens → (a_definition m).read names tokens ≡ Ok (d, between, back) → behind defined kept (lift_all m names tokens) ≡ total → behind (defined ++ d ∷ []) kept (lift_all m between back) ≡ total
goes_defined m defined kept names between tokens back d total is read so_far =
    let first : lift_all m names tokens ≡ after (lift_all m between back) (λ l. okay (with_definition d l)) = lift_defined m names tokens (sym is) ∙ ap (λ r. after r (λ x. after (lift_all m x.1 x.2) (λ l. okay (with_definition x.0 l)))) read in
    sym (regroup_defined defined kept d (lift_all m between back)) ∙ ap (behind defined kept) (sym first) ∙ so_far

pub fails_defined : (e : Stop) (m : Meaning) (defined : List Definition) (kept : List Token) (names : List (List ℕ)) (tokens : List Token) (total : Result Lifting Stopped)
    → true ≡ begins_definition m.text tokens → Fails e ((a_definition m).read names tokens) → behind defined kept (lift_all m names tokens) ≡ total → Fails e total
fails_defined stop.NoMemory m defined kept names tokens total is f so_far = tt
fails_defined (stop.Fault d) m defined kept names tokens total is f so_far = sym so_far ∙ ap (behind defined kept) (lift_defined m names tokens (sym is) ∙ ap (λ r. after r (λ x. after (lift_all m x.1 x.2) (λ l. okay (with_definition x.0 l)))) f)

pub lift_stops : (m : Meaning) (defined : List Definition) (kept : List Token) (names : List (List ℕ)) (tokens : List Token) (total : Result Lifting Stopped)
    → tokens ≡ [] → behind defined kept (lift_all m names tokens) ≡ total → total ≡ Ok (record { defined = defined; kept = kept })
lift_stops m defined kept names tokens total none so_far =
    let end : lift_all m names tokens ≡ Ok nothing_lifted = ap (lift_all m names) none ∙ lift_none m names in
    sym so_far ∙ ap (behind defined kept) end ∙ (rw (append-nil defined, append-nil kept) refl)

-- ---- the two laws

abbrev Finds : Meaning → More → Type 0
Finds m more = (names : List (List ℕ)) (tokens : List Token) (l : Lifting) → more names tokens ≡ Ok l → Parted m names tokens l

step_found : (m : Meaning) (more : More) (names : List (List ℕ)) (t : Token) (ts : List Token) (l : Lifting) (b : Bool) → begins_definition m.text (t ∷ ts) ≡ b → Finds m more → lift_step m more b names t ts ≡ Ok l → Parted m names (t ∷ ts) l
step_found m more names t ts l true is finds e =
    let r = after_ok ((a_definition m).read names (t ∷ ts)) (λ x. after (more x.1 x.2) (λ k. okay (with_definition x.0 k))) l e in
    let f = (definition_good m).found names (t ∷ ts) r.0 r.1 in
    let q = after_ok (more r.0.1 r.0.2) (λ k. okay (with_definition r.0.0 k)) l r.2 in
    let p = finds r.0.1 r.0.2 q.0 q.1 in
    (Defined r.0.0 ∷ p.0, record { begins = is; front = f.used; back = r.0.2; between = r.0.1; parts = f.parts; definition = f.meant; others = p.1 }, sym (from_okay (with_definition r.0.0 q.0) l q.2) ∙ ap (with_definition r.0.0) p.2)
step_found m more names t ts l false is finds e =
    let r = after_ok (more names ts) (λ k. okay (with_token t k)) l e in
    let p = finds names ts r.0 r.1 in
    (Kept t ∷ p.0, record { begins = is; back = ts; parts = refl; others = p.1 }, sym (from_okay (with_token t r.0) l r.2) ∙ ap (with_token t) p.2)

read_found : (n : ℕ) (m : Meaning) → Finds m (lift_read n m)
unfolding lift_read
read_found n m names [] l e = ([], refl, sym (from_okay nothing_lifted l e))
read_found zero m names (t ∷ ts) l e = absurd cc
read_found (suc n) m names (t ∷ ts) l e = step_found m (lift_read n m) names t ts l (begins_definition m.text (t ∷ ts)) refl (read_found n m) e

-- what was lifted is what pieces of the tokens give
pub lift_found : (m : Meaning) (names : List (List ℕ)) (tokens : List Token) (l : Lifting) → lift_all m names tokens ≡ Ok l → Parted m names tokens l
unfolding lift_all
lift_found m names tokens l e = read_found (length tokens) m names tokens l e

-- what pieces give is lifted
pub lift_only : (m : Meaning) (names : List (List ℕ)) (tokens : List Token) (pieces : List Piece) → ArePieces m names tokens pieces → lift_all m names tokens ≡ Ok (lifting_of pieces)
lift_only m names tokens [] e = ap (lift_all m names) e ∙ lift_none m names
lift_only m names tokens (Kept t ∷ pieces) k =
    ap (lift_all m names) k.parts ∙ lift_kept m names t k.back (ap (begins_definition m.text) (sym k.parts) ∙ k.begins) ∙ ap (λ r. after r (λ l. okay (with_token t l))) (lift_only m names k.back pieces k.others)
lift_only m names tokens (Defined d ∷ pieces) k =
    let read : (a_definition m).read names tokens ≡ Ok (d, k.between, k.back) = ap ((a_definition m).read names) k.parts ∙ (definition_good m).only names k.between k.front k.back d k.definition (avoids_none k.back) in
    lift_defined m names tokens k.begins ∙ ap (λ r. after r (λ x. after (lift_all m x.1 x.2) (λ l. okay (with_definition x.0 l)))) read ∙ ap (λ r. after r (λ l. okay (with_definition d l))) (lift_only m k.between k.back pieces k.others)

-- tokens part in one way
pub lift_once : (m : Meaning) (names : List (List ℕ)) (tokens : List Token) (p q : List Piece) → ArePieces m names tokens p → ArePieces m names tokens q → lifting_of p ≡ lifting_of q
lift_once m names tokens p q a b = from_okay (lifting_of p) (lifting_of q) (sym (lift_only m names tokens p a) ∙ lift_only m names tokens q b)
