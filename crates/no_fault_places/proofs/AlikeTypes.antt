-- Named types that mean the same in two texts, however many more the other text has.
use Rattle.std.proofs.Common.{◌≡◌, ◌<◌, ◌≤◌, ℕ, suc, zero, ◌+◌, Bool, true, false, ◌&&◌, List, [], ◌∷◌, length, slice_get, map, Option, Some, None, unwrap_or, Ok, refl, sym, ap, subst, ◌∙◌, arith, true≢false, drop}
use Rattle.std.specs.List.{list_all, zip}
use Rattle.std.proofs.lemmas.Bool.{lt-ltb, ltb-true}
use Rattle.no_lex.specs.declared.token.Token.{Token}
use Rattle.no_ir.specs.declared.types.Ty.{Ty, out-Ty, roll-Ty}
use Rattle.no_ir.specs.declared.types.Ty.TheOpen.{Ty-F}
use Rattle.no_ir.specs.declared.types.Ty.TheFolds.{fold-roll-Ty, ind-Ty, map-Ty}
use Rattle.no_ir.specs.declared.types.Ty.TheViews.{roll-out-Ty}
use Rattle.no_module.specs.Formed.{type_formed, type_step, types_formed}
use Rattle.no_read_rules.specs.Scope.{Meaning}
use Rattle.no_read_rules.specs.Unescaped.{name_of}
use Rattle.no_read_constants.specs.Constants.{named_in, element_in, fields_in}
use Rattle.no_read_types.specs.declared.lifted.Lifted.{Lifted}
use Rattle.no_read_types.specs.Lifted.{Lifts}
use Rattle.no_read_types.proofs.LiftLaws.{lift_found}
use Rattle.no_read_formed.proofs.Typed.{names_typed}
use Rattle.no_read_formed.proofs.Types.{int_formed, ptr_formed, named_formed, array_formed, struct_formed, found_below}
use Rattle.no_fault_places.specs.Alike.{IsTypedAlike}
use Rattle.no_fault_places.proofs.AlikeConstants.{Each, Typing}

-- ---- types that refer to numbers below a number refer to numbers below a greater one

module _ (n k : ℕ) (most : n ≤ k) where
  layer : (b : ℕ) (x : Ty-F Ty) → type_formed b (roll-Ty x) ≡ type_step b (map-Ty Ty Bool (type_formed b) x)
  layer b x = fold-roll-Ty Bool (type_step b) x

  abbrev Rises : Ty → Type 0
  Rises t = type_formed n t ≡ true → type_formed k t ≡ true

  module _ (S : Type 0) (v : S → Ty) (h : (d : S) → Rises (v d)) where
    both : (b c : Bool) → (b && c) ≡ true → (b ≡ true) × (c ≡ true)
    both true c e = (refl, e)
    both false c e = absurd (true≢false (sym e))

    fields_rise : (ds : List S) → list_all (λ field. field) (map (type_formed n) (map v ds)) ≡ true → list_all (λ field. field) (map (type_formed k) (map v ds)) ≡ true
    fields_rise [] e = refl
    fields_rise (d ∷ ds) e = let p = both (type_formed n (v d)) (list_all (λ field. field) (map (type_formed n) (map v ds))) e in rw (h d p.0, fields_rise ds p.1) refl

    step : (y : Ty-F S) → type_step n (map-Ty Ty Bool (type_formed n) (map-Ty S Ty v y)) ≡ true → type_step k (map-Ty Ty Bool (type_formed k) (map-Ty S Ty v y)) ≡ true
    step Ty-F.Void e = absurd (true≢false (sym e))
    step (Ty-F.Int w) e = e
    step Ty-F.Ptr e = refl
    step (Ty-F.Array c d) e = h d e
    step (Ty-F.Struct p ds) e = fields_rise ds e
    step (Ty-F.Named j) e = let lt = ltb-true j n e in lt-ltb j k (omega (arith, lt, most))

    one : (y : Ty-F S) → Rises (roll-Ty (map-Ty S Ty v y))
    one y e = let x = map-Ty S Ty v y in layer k x ∙ step y (sym (layer n x) ∙ e)

  rises : (t : Ty) → Rises t
  rises t = ind-Ty Rises (λ x y e. subst (λ (z : Ty-F Ty). Rises (roll-Ty z)) e (one _ (λ d. d.0) (λ d. d.1) y)) t

-- ---- the named types of a text

formed_from : (b : ℕ) (names : List (List ℕ)) (types : List Ty) (k : ℕ) (t : Ty) → types_formed b (zip names types) ≡ true → k < length names → slice_get types k ≡ Some t → type_formed (b + k) t ≡ true
formed_from b [] types k t e lt s = absurd (omega (arith, lt))
formed_from b (name ∷ names) [] k t e lt s = absurd cc
formed_from b (name ∷ names) (u ∷ types) zero t e lt s = rises b (b + 0) (omega arith) t (subst (λ (x : Ty). type_formed b x ≡ true) (some u t s) (left (type_formed b u) (types_formed (b + 1) (zip names types)) e))
  where
    some : (x y : Ty) → Some x ≡ Some y → x ≡ y
    some x y q = cc

    left : (c d : Bool) → (c && d) ≡ true → c ≡ true
    left true d q = refl
    left false d q = q
formed_from b (name ∷ names) (u ∷ types) (suc k) t e lt s =
    let more = formed_from (b + 1) names types k t (right (type_formed b u) (types_formed (b + 1) (zip names types)) e) (omega (arith, lt)) s in
    let same : b + 1 + k ≡ b + suc k = omega arith in
    subst (λ (x : ℕ). type_formed x t ≡ true) same more
  where
    right : (c d : Bool) → (c && d) ≡ true → d ≡ true
    right true d q = q
    right false d q = absurd (true≢false (sym q))

-- each refers to those of the text alone
pub lifted_formed : (text : List ℕ) (tokens : List Token) (x : Lifted) → Lifts text tokens (Ok x) → (k : ℕ) (t : Ty) → k < length x.named → slice_get x.types k ≡ Some t → type_formed (length x.named) t ≡ true
lifted_formed text tokens x l k t lt s =
    let typed = names_typed lift_found text tokens x l in
    rises (0 + k) (length x.named) (omega (arith, lt)) t (formed_from 0 x.named x.types k t typed.lower lt s)

-- ---- types that mean the same

module _ (here there : Meaning) (alike : IsTypedAlike here there) where
  abbrev N : ℕ
  N = length here.named

  abbrev Known : Ty → Type 0
  Known t = type_formed N t ≡ true

  opened : (t : Ty) → type_formed N t ≡ type_step N (map-Ty Ty Bool (type_formed N) (out-Ty t))
  opened t = ap (type_formed N) (sym (roll-out-Ty t)) ∙ fold-roll-Ty Bool (type_step N) (out-Ty t)

  all_fields : (ts : List Ty) → Each Known ts → list_all (λ field. field) (map (type_formed N) ts) ≡ true
  all_fields [] k = refl
  all_fields (t ∷ ts) k = rw (k.0, all_fields ts k.1) refl

  each_field : (ts : List Ty) → list_all (λ field. field) (map (type_formed N) ts) ≡ true → Each Known ts
  each_field [] e = tt
  each_field (t ∷ ts) e = let p = both (type_formed N t) (list_all (λ field. field) (map (type_formed N) ts)) e in (p.0, each_field ts p.1)
    where
      both : (b c : Bool) → (b && c) ≡ true → (b ≡ true) × (c ≡ true)
      both true c e = (refl, e)
      both false c e = absurd (true≢false (sym e))

  resolves : (t : Ty) (o : Ty-F Ty) → type_step N (map-Ty Ty Bool (type_formed N) o) ≡ true → named_in t there.types o ≡ named_in t here.types o
  resolves t (Ty-F.Named j) e = ap (λ (x : Option Ty). unwrap_or x t) (alike.same j (ltb-true j N e))
  resolves t Ty-F.Void e = refl
  resolves t (Ty-F.Int w) e = refl
  resolves t Ty-F.Ptr e = refl
  resolves t (Ty-F.Array c d) e = refl
  resolves t (Ty-F.Struct p ds) e = refl

  stays : (t : Ty) (o : Ty-F Ty) → Known t → type_step N (map-Ty Ty Bool (type_formed N) o) ≡ true → Known (named_in t here.types o)
  stays t (Ty-F.Named j) k e = by (slice_get here.types j) refl
    where
      by : (x : Option Ty) → slice_get here.types j ≡ x → Known (unwrap_or x t)
      by (Some u) s = alike.formed j u (ltb-true j N e) s
      by None s = k
  stays t Ty-F.Void k e = k
  stays t (Ty-F.Int w) k e = k
  stays t Ty-F.Ptr k e = k
  stays t (Ty-F.Array c d) k e = k
  stays t (Ty-F.Struct p ds) k e = k

  element : (t : Ty) (o : Ty-F Ty) → Known t → type_step N (map-Ty Ty Bool (type_formed N) o) ≡ true → Known (element_in t o)
  element t (Ty-F.Array c d) k e = e
  element t (Ty-F.Named j) k e = k
  element t Ty-F.Void k e = k
  element t (Ty-F.Int w) k e = k
  element t Ty-F.Ptr k e = k
  element t (Ty-F.Struct p ds) k e = k

  fields : (o : Ty-F Ty) → type_step N (map-Ty Ty Bool (type_formed N) o) ≡ true → Each Known (fields_in o)
  fields (Ty-F.Struct p ds) e = each_field ds e
  fields (Ty-F.Array c d) e = tt
  fields (Ty-F.Named j) e = tt
  fields Ty-F.Void e = tt
  fields (Ty-F.Int w) e = tt
  fields Ty-F.Ptr e = tt

  pub typing : Typing here there
  typing = record {
    Known = Known;
    named = λ s k e. named_formed N k ∙ found_below here.named (name_of (drop 1 s)) k e;
    int = λ w e. int_formed N w ∙ e;
    ptr = ptr_formed N;
    array = λ count t k. array_formed N count t ∙ k;
    struct = λ packed all k. struct_formed N packed all ∙ all_fields all k;
    resolves = λ t k. resolves t (out-Ty t) (sym (opened t) ∙ k);
    again = λ t k. stays t (out-Ty t) k (sym (opened t) ∙ k);
    element = λ t r k l. element t (out-Ty r) k (sym (opened r) ∙ l);
    fields = λ t k. fields (out-Ty t) (sym (opened t) ∙ k);
  }
