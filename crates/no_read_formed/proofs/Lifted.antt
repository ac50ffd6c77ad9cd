-- Type definitions have different names, and so each named type has a name of its own.
use Rattle.std.proofs.Common.{◌≡◌, ◌<◌, ◌≤◌, ℕ, suc, zero, ◌+◌, Bool, true, false, not, ◌&&◌, ◌||◌, nat_lt, nat_eq, List, [], ◌∷◌, ◌++◌, length, get_or, slice_get, map, bytes_eq, cond, if◌then◌else◌, Option, Some, None, Result, Ok, Err, refl, sym, ap, subst, ◌∙◌, ◌⊎◌, ◌≢◌, inl, inr, arith, true≢false, append_assoc}
use Rattle.std.specs.Prelude.{position, unwrap_or}
use Rattle.std.specs.List.{list_any, position_or_len, zip}
use Rattle.std.specs.Cmp.Lexicographic.{same_text}
use Rattle.std.proofs.lemmas.Bool.{lt-ltb, ltb-true}
use Rattle.std.proofs.lemmas.Bool.Decides.{eqb_tells}
use Rattle.std.proofs.lemmas.Slice.Eq.{bytes_eq-Decides}
use Rattle.std.proofs.lemmas.List.{length-append, length-map}
use Rattle.std.proofs.lemmas.List.Folds.{list_any-append}
use Rattle.no_lex.specs.declared.token.Token.{Token}
use Rattle.no_lex.specs.declared.token.TokenKind.TheVariants as kind
use Rattle.no_ir.specs.Naming.{with_name, is_known}
use Rattle.no_ir.specs.declared.types.Ty.{Ty, out-Ty}
use Rattle.no_ir.specs.declared.types.Ty.TheOpen.{Ty-F}
use Rattle.no_read_rules.specs.declared.fault.Flaw.{Flaw}
use Rattle.no_read_rules.specs.declared.fault.Flaw.TheVariants.{Syntax}
use Rattle.no_read_rules.specs.Rules.{Rule, one}
use Rattle.no_read_rules.specs.Scope.{Meaning}
use Rattle.no_read_rules.specs.Spelled.{is_kind}
use Rattle.no_read_rules.specs.Types.{a_type}
use Rattle.no_read_types.specs.declared.definition.Definition.{Definition}
use Rattle.no_read_types.specs.declared.definition.Lifting.{Lifting}
use Rattle.no_read_types.specs.Graph.{references, graph_of, is_open, order_of, number_of}
use Rattle.no_read_types.specs.Lifting.{name_at, added_name, new_name, struct_in, a_struct, a_definition, Piece, Kept, Defined, ArePieces, lifting_of}
use Rattle.no_read_types.specs.Lifted.{renumbered, as_list, picked, types_in, names_with}
use Rattle.no_read_constants.specs.Constants.{named_in}
use Rattle.no_module.specs.Formed.{type_formed}
use Rattle.no_module.specs.Named.{defined, resolved_step}
use Rattle.no_read_formed.proofs.Forms.{known_place}
use Rattle.no_read_formed.proofs.Order.{Ready, Follows}
use Rattle.no_read_formed.proofs.Types.{from_got, got, type_all}
use Rattle.no_read_formed.proofs.Lower.{same_number, defined_at}

-- ---- one definition

pub record Adds (m : Meaning) (names : List (List ℕ)) (d : Definition) (after : List (List ℕ)) : Type 0 where
  pub new : is_known names d.name ≡ false
  pub then' : after ≡ with_name names d.name
  pub formed : type_formed (length m.named) d.ty ≡ true

unplaced : (p : List ℕ → Bool) (names : List (List ℕ)) → position p names ≡ None → list_any p names ≡ false
unplaced p names e = go (list_any p names) refl
  where
    go : (b : Bool) → list_any p names ≡ b → list_any p names ≡ false
    go false k = k
    go true k = absurd (some (sym (ap (λ (c : Bool). cond c (Some (position_or_len p names)) None) (lt-ltb (position_or_len p names) (length names) (known_place p names k))) ∙ e))
      where
        some : (Some (position_or_len p names) ≡ None) → ⊥
        some q = cc

added : (names : List (List ℕ)) (at : ℕ) (name : List ℕ) (o : Option ℕ) (x : ℕ × List ℕ) (after : List (List ℕ)) → added_name names at name o ≡ Ok (x, after) → (o ≡ None) × (x.1 ≡ name) × (after ≡ with_name names name)
added names at name (Some n) x after e = absurd cc
added names at name None x after e =
    let k = from_got ((at, name), with_name names name) (x, after) e in
    (refl, sym (ap (λ (z : (ℕ × List ℕ) × List (List ℕ)). z.0.1) k), sym (ap (λ (z : (ℕ × List ℕ) × List (List ℕ)). z.1) k))

named_new : (text : List ℕ) (names : List (List ℕ)) (u : Token) (x : ℕ × List ℕ) (after : List (List ℕ)) → new_name text names u ≡ Ok (x, after) → (is_known names x.1 ≡ false) × (after ≡ with_name names x.1)
named_new text names u x after e = go (is_kind kind.Local u) e
  where
    told : (position (bytes_eq (name_at text u)) names ≡ None) × (x.1 ≡ name_at text u) × (after ≡ with_name names (name_at text u)) → (is_known names x.1 ≡ false) × (after ≡ with_name names x.1)
    told k = (subst (λ (n : List ℕ). is_known names n ≡ false) (sym k.1) (unplaced (bytes_eq (name_at text u)) names k.0), subst (λ (n : List ℕ). after ≡ with_name names n) (sym k.1) k.2)

    go : (b : Bool) → (if b then added_name names u.start (name_at text u) (position (bytes_eq (name_at text u)) names) else Err Syntax) ≡ Ok (x, after) → (is_known names x.1 ≡ false) × (after ≡ with_name names x.1)
    go true k = told (added names u.start (name_at text u) (position (bytes_eq (name_at text u)) names) x after k)
    go false k = absurd cc

struct_same : (t u : Ty) (o : Ty-F Ty) → struct_in t o ≡ Ok u → u ≡ t
struct_same t u (Ty-F.Struct packed fields) e = sym (from_got t u e)
struct_same t u Ty-F.Void e = absurd cc
struct_same t u (Ty-F.Int w) e = absurd cc
struct_same t u Ty-F.Ptr e = absurd cc
struct_same t u (Ty-F.Array count element) e = absurd cc
struct_same t u (Ty-F.Named k) e = absurd cc

pub definition_adds : (m : Meaning) (names : List (List ℕ)) (used : List Token) (d : Definition) (after : List (List ℕ)) → (a_definition m).means names used d after → Adds m names d after
unfolding a_definition
definition_adds m names used d after k =
    let sign = k.in_back in
    let word = sign.in_back in
    let type_ = word.in_back in
    let last = type_.in_back in
    let head = named_new m.text names k.in_front.token k.first k.between k.in_front.value in
    let read = type_.in_front in
    let same : after ≡ k.between = last.2 ∙ read.read.1 ∙ word.in_front.1 ∙ sign.in_front.1 in
    let of : type_formed (length m.named) type_.first ≡ true = subst (λ (t : Ty). type_formed (length m.named) t ≡ true) (sym (struct_same read.value type_.first (out-Ty read.value) read.passes)) (type_all m 64 tt tt type_.front read.value read.read.0) in
    subst (λ (x : Definition). Adds m names x after) (sym last.1) (record { new = head.0; then' = same ∙ head.1; formed = of })

-- ---- all definitions

abbrev pub Chain : List (List ℕ) → List Definition → Type 0
Chain names [] = Unit {0}
Chain names (d ∷ ds) = (is_known names d.name ≡ false) × Chain (with_name names d.name) ds

abbrev pub AllFormed : ℕ → List Definition → Type 0
AllFormed n [] = Unit {0}
AllFormed n (d ∷ ds) = (type_formed n d.ty ≡ true) × AllFormed n ds

pub pieces_chain : (m : Meaning) (pieces : List Piece) (names : List (List ℕ)) (tokens : List Token) → ArePieces m names tokens pieces → Chain names (lifting_of pieces).defined × AllFormed (length m.named) (lifting_of pieces).defined
pieces_chain m [] names tokens k = (tt, tt)
pieces_chain m (Kept token ∷ pieces) names tokens k = pieces_chain m pieces names k.back k.others
pieces_chain m (Defined d ∷ pieces) names tokens k =
    let a = definition_adds m names k.front d k.between k.definition in
    let more = pieces_chain m pieces k.between k.back k.others in
    ((a.new, subst (λ (ns : List (List ℕ)). Chain ns (lifting_of pieces).defined) a.then' more.0), (a.formed, more.1))

pub formed_at : (n : ℕ) (ds : List Definition) → AllFormed n ds → (i : ℕ) (d : Definition) → slice_get ds i ≡ Some d → type_formed n d.ty ≡ true
formed_at n [] k i d e = absurd cc
formed_at n (x ∷ ds) k zero d e = let same : x ≡ d = cc in subst (λ (y : Definition). type_formed n y.ty ≡ true) same k.0
formed_at n (x ∷ ds) k (suc i) d e = formed_at n ds k.1 i d e

-- ---- different names

left_unknown : (names : List (List ℕ)) (name other : List ℕ) → is_known (with_name names name) other ≡ false → is_known names other ≡ false
left_unknown names name other e = go (is_known names name) e
  where
    left : (b c : Bool) → (b || c) ≡ false → b ≡ false
    left true c k = absurd (true≢false k)
    left false c k = refl

    go : (b : Bool) → is_known (if b then names else names ++ name ∷ []) other ≡ false → is_known names other ≡ false
    go true k = k
    go false k = left (is_known names other) (is_known (name ∷ []) other) (sym (list_any-append (bytes_eq other) names (name ∷ [])) ∙ k)

self : (name : List ℕ) → bytes_eq name name ≡ true
self name = (bytes_eq-Decides name name).1 refl

with_known : (names : List (List ℕ)) (name : List ℕ) → is_known (with_name names name) name ≡ true
with_known names name = go (is_known names name) refl
  where
    or_true : (b : Bool) → (b || true) ≡ true
    or_true true = refl
    or_true false = refl

    go : (b : Bool) → is_known names name ≡ b → is_known (if b then names else names ++ name ∷ []) name ≡ true
    go true k = k
    go false k = list_any-append (bytes_eq name) names (name ∷ []) ∙ (rw (self name) (or_true (is_known names name)))

chain_unknown : (names : List (List ℕ)) (ds : List Definition) (j : ℕ) (b : Definition) → Chain names ds → slice_get ds j ≡ Some b → is_known names b.name ≡ false
chain_unknown names [] j b k e = absurd cc
chain_unknown names (d ∷ ds) zero b k e = let same : d ≡ b = cc in subst (λ (y : Definition). is_known names y.name ≡ false) same k.0
chain_unknown names (d ∷ ds) (suc j) b k e = left_unknown names d.name b.name (chain_unknown (with_name names d.name) ds j b k.1 e)

differ : (names : List (List ℕ)) (ds : List Definition) → Chain names ds → (i j : ℕ) (a b : Definition) → slice_get ds i ≡ Some a → slice_get ds j ≡ Some b → a.name ≡ b.name → i ≡ j
differ names [] k i j a b p q e = absurd cc
differ names (d ∷ ds) k zero zero a b p q e = refl
differ names (d ∷ ds) k zero (suc j) a b p q e =
    let same : d ≡ a = cc in
    let unknown = chain_unknown (with_name names d.name) ds j b k.1 q in
    absurd (true≢false (sym (with_known names d.name) ∙ ap (λ (n : List ℕ). is_known (with_name names d.name) n) (ap (λ (y : Definition). y.name) same ∙ e) ∙ unknown))
differ names (d ∷ ds) k (suc i) zero a b p q e =
    let same : d ≡ b = cc in
    let unknown = chain_unknown (with_name names d.name) ds i a k.1 p in
    absurd (true≢false (sym (with_known names d.name) ∙ ap (λ (n : List ℕ). is_known (with_name names d.name) n) (ap (λ (y : Definition). y.name) same ∙ sym e) ∙ unknown))
differ names (d ∷ ds) k (suc i) (suc j) a b p q e = ap suc (differ (with_name names d.name) ds k.1 i j a b p q e)

-- ---- as many names as types

module _ (D : List Definition) (chain : Chain [] D) where
  -- each of these names is that of a definition that has a number
  Known : List (List ℕ) → List ℕ → Type 0
  Known acc done = (x : List ℕ) → is_known acc x ≡ true → (j : ℕ) × (b : Definition) × (list_any (nat_eq j) done ≡ true) × (slice_get D j ≡ Some b) × (x ≡ b.name)

  known_more : (acc : List (List ℕ)) (done : List ℕ) (n : ℕ) (d : Definition) → slice_get D n ≡ Some d → Known acc done → Known (acc ++ d.name ∷ []) (done ++ n ∷ [])
  unfolding Known
  known_more acc done n d is k x e = go (is_known acc x) refl
    where
      or_true : (b : Bool) → (b || true) ≡ true
      or_true true = refl
      or_true false = refl

      right : (b c : Bool) → b ≡ false → (b || c) ≡ true → c ≡ true
      right true c p q = absurd (true≢false p)
      right false c p q = q

      first : (c : Bool) → (c || false) ≡ true → c ≡ true
      first true q = refl
      first false q = q

      go : (b : Bool) → is_known acc x ≡ b → (j : ℕ) × (b : Definition) × (list_any (nat_eq j) (done ++ n ∷ []) ≡ true) × (slice_get D j ≡ Some b) × (x ≡ b.name)
      go true p = let y = k x p in (y.0, y.1, list_any-append (nat_eq y.0) done (n ∷ []) ∙ (rw y.2 refl), y.3, y.4)
      go false p =
          let t : bytes_eq x d.name ≡ true = first (bytes_eq x d.name) (right (is_known acc x) (bytes_eq x d.name || false) p (sym (list_any-append (bytes_eq x) acc (d.name ∷ [])) ∙ e)) in
          (n, d, list_any-append (nat_eq n) done (n ∷ []) ∙ (rw (same_number n) (or_true (list_any (nat_eq n) done))), is, (bytes_eq-Decides x d.name).0 t)

  new_here : (acc : List (List ℕ)) (done : List ℕ) (n : ℕ) (d : Definition) → slice_get D n ≡ Some d → Known acc done → list_any (nat_eq n) done ≡ false → is_known acc d.name ≡ false
  unfolding Known
  new_here acc done n d is k out = go (is_known acc d.name) refl
    where
      go : (b : Bool) → is_known acc d.name ≡ b → is_known acc d.name ≡ false
      go false p = p
      go true p =
          let y = k d.name p in
          let same : y.0 ≡ n = differ [] D chain y.0 n y.1 d y.3 is (sym y.4) in
          absurd (true≢false (sym y.2 ∙ ap (λ (i : ℕ). list_any (nat_eq i) done) same ∙ out))

  counted : (acc : List (List ℕ)) (done rest : List ℕ) → Known acc done → Follows (graph_of D) done rest → length (names_with acc (picked D rest)) ≡ length acc + length (picked D rest)
  counted acc done [] k f = let z : length acc + 0 ≡ length acc = omega arith in sym z
  counted acc done (n ∷ rest) k f = at (defined_at D n inside) (λ a p. counted a (done ++ n ∷ []) rest p f.1)
    where
      split : (b c : Bool) → (b && not c) ≡ true → (b ≡ true) × (c ≡ false)
      split true false e = (refl, refl)
      split true true e = absurd cc
      split false c e = absurd cc

      opened : (nat_lt n (length (graph_of D)) ≡ true) × (list_any (nat_eq n) done ≡ false)
      opened = split (nat_lt n (length (graph_of D))) (list_any (nat_eq n) done) f.0.opened

      inside : n < length D
      inside = let l = length-map D (λ d. references d.ty) in let p = ltb-true n (length (graph_of D)) opened.0 in omega (arith, l, p)

      at : ((d : Definition) × (slice_get D n ≡ Some d) × (get_or (graph_of D) n [] ≡ references d.ty)) → ((a : List (List ℕ)) → Known a (done ++ n ∷ []) → length (names_with a (picked D rest)) ≡ length a + length (picked D rest))
          → length (names_with acc (picked D (n ∷ rest))) ≡ length acc + length (picked D (n ∷ rest))
      at x more =
          let fresh : is_known acc x.0.name ≡ false = new_here acc done n x.0 x.1 k opened.1 in
          let q = more (acc ++ x.0.name ∷ []) (known_more acc done n x.0 x.1 k) in
          let l = length-append acc (x.0.name ∷ []) in
          rw (x.1) (rw fresh (q ∙ ends (length (acc ++ x.0.name ∷ [])) (length (picked D rest)) l))
        where
          ends : (a b : ℕ) → a ≡ length acc + 1 → a + b ≡ length acc + suc b
          ends a b e = omega (arith, e)

  none_known : Known [] []
  unfolding Known
  none_known x e = absurd (true≢false (sym e))

  pub as_many : (order : List ℕ) (num : ℕ → ℕ) → Follows (graph_of D) [] order → length (names_with [] (picked D order)) ≡ length (types_in num (picked D order))
  as_many order num f = counted [] [] order none_known f ∙ zeros (length (picked D order)) ∙ sym (length-map (picked D order) (λ d. renumbered num d.ty))
    where
      zeros : (n : ℕ) → 0 + n ≡ n
      zeros n = omega arith

-- ---- what a named type stands for

pub long_as : (names : List (List ℕ)) (types : List Ty) → length names ≡ length types → length (zip names types) ≡ length names
long_as [] types e = refl
long_as (n ∷ ns) [] e = absurd (omega (arith, e))
long_as (n ∷ ns) (t ∷ ts) e = ap suc (long_as ns ts (omega (arith, e)))

zip_at : (names : List (List ℕ)) (types : List Ty) (k : ℕ) (t : Ty) → length names ≡ length types → unwrap_or (slice_get types k) t ≡ defined t (slice_get (zip names types) k)
zip_at [] [] k t e = refl
zip_at [] (x ∷ types) k t e = absurd (omega (arith, e))
zip_at (n ∷ names) [] k t e = absurd (omega (arith, e))
zip_at (n ∷ names) (x ∷ types) zero t e = refl
zip_at (n ∷ names) (x ∷ types) (suc k) t e = zip_at names types k t (omega (arith, e))

pub stand_same : (names : List (List ℕ)) (types : List Ty) (t : Ty) (o : Ty-F Ty) → length names ≡ length types → named_in t types o ≡ resolved_step (zip names types) t o
stand_same names types t (Ty-F.Named k) e = zip_at names types k t e
stand_same names types t Ty-F.Void e = refl
stand_same names types t (Ty-F.Int w) e = refl
stand_same names types t Ty-F.Ptr e = refl
stand_same names types t (Ty-F.Array count element) e = refl
stand_same names types t (Ty-F.Struct packed fields) e = refl
