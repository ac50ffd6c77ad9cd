-- What externals give: numbers of the width of their result, live blocks, and an input of bytes.
use Rattle.std.proofs.Common.{◌≡◌, ℕ, Bool, true, false, true≢false, eqb-true, Option, Some, None, if◌then◌else◌, List, [], ◌∷◌, length, map, refl, sym, ap, ◌∙◌, subst, bytes_eq, drop, codes}
use Rattle.std.proofs.lemmas.Option.{same_Some, none-some}
use Rattle.no_ir.specs.declared.types.Ty.{Ty, out-Ty}
use Rattle.no_ir.specs.declared.types.Ty.TheOpen.{Ty-F}
use Rattle.no_ir.specs.declared.function.Function.{Function}
use Rattle.no_ir.specs.declared.function.Role.{Role}
use Rattle.no_ir.specs.declared.function.Role.TheVariants.{Source, Part}
use Rattle.no_layout.specs.declared.layout.Layout.{Layout}
use Rattle.no_module.specs.declared.external.External.{External}
use Rattle.no_module.specs.declared.external.External.TheVariants as external
use Rattle.no_module.specs.declared.scalar.Scalar.{Scalar}
use Rattle.no_module.specs.declared.scalar.Scalar.TheVariants as scalar
use Rattle.no_module.specs.Externals.{library_named, mark_named, width_word, at_least, width_behind, sized, integer_named, helper_named, ranged, memory_named, or_else, other_named, plain_row, or_plain, row_named, gives as gives', has_type as is_typed, typed_row, external_in, external_typed, external_of}
use Rattle.no_module.specs.Functions.{begins_with, is_declared}
use Rattle.no_module.specs.Scalars.{is_of, is_param, scalar_step, is_void, takes, void_step}
use Rattle.no_module.specs.Widths.{is_width}
use Rattle.no_semantics.specs.Externals.{is_swapped_width, is_compared_width}
use Rattle.no_semantics.specs.Values.{Program, width_of, width_step}
use Rattle.no_progress.specs.Proper.{bits}
use Rattle.no_progress.proofs.Entering.{and_parts, param_widths}

-- ---- types

abbrev pub scalar_width : Layout → Scalar → ℕ
scalar_width l (scalar.Int w) = w
scalar_width l scalar.Ptr = l.pointer

-- a type that is this scalar one
abbrev pub IsOf : Layout → Scalar → Ty-F Ty → Type 0
IsOf l s t = (width_step l t ≡ scalar_width l s) × (void_step t ≡ false)

of_none : (s : Scalar) → is_of s None ≡ true → ⊥
of_none s e = true≢false (sym e)

of_int : (l : Layout) (s : Scalar) (w : ℕ) (b : Bool) → is_of s (if b then Some (scalar.Int w) else None) ≡ true → w ≡ scalar_width l s
of_int l (scalar.Int v) w true e = sym (eqb-true v w e)
of_int l scalar.Ptr w true e = absurd (true≢false (sym e))
of_int l s w false e = absurd (true≢false (sym e))

of_ptr : (l : Layout) (s : Scalar) → is_of s (Some scalar.Ptr) ≡ true → l.pointer ≡ scalar_width l s
of_ptr l (scalar.Int v) e = absurd (true≢false (sym e))
of_ptr l scalar.Ptr e = refl

of_step : (l : Layout) (s : Scalar) (t : Ty-F Ty) → is_of s (scalar_step t) ≡ true → IsOf l s t
of_step l s (Ty-F.Int w) e = (of_int l s w (is_width w) e, refl)
of_step l s Ty-F.Ptr e = (of_ptr l s e, refl)
of_step l s Ty-F.Void e = absurd (of_none s e)
of_step l s (Ty-F.Array c t) e = absurd (of_none s e)
of_step l s (Ty-F.Struct q ts) e = absurd (of_none s e)
of_step l s (Ty-F.Named k) e = absurd (of_none s e)

pub given_bits : (p : Program) (s : Scalar) (t : Ty) → gives' s t ≡ true → bits p t ≡ Some (scalar_width p.layout s)
given_bits p s t e =
    let is : IsOf p.layout s (out-Ty t) = of_step p.layout s (out-Ty t) e in
    ap (λ (b : Bool). if b then None else Some (width_of p.layout t)) is.1 ∙ ap Some is.0

pub void_bits : (p : Program) (t : Ty) → is_void t ≡ true → bits p t ≡ None
void_bits p t e = ap (λ (b : Bool). if b then None else Some (width_of p.layout t)) e

pub taken_widths : (p : Program) (ss : List Scalar) (ps : List (ℕ × Ty)) → takes ss ps ≡ true → param_widths p ps ≡ map (scalar_width p.layout) ss
unfolding is_param
taken_widths p [] [] e = refl
taken_widths p [] (q ∷ ps) e = absurd (true≢false (sym e))
taken_widths p (s ∷ ss) [] e = absurd (true≢false (sym e))
taken_widths p (s ∷ ss) (q ∷ ps) e =
    let parts = and_parts (is_param s q) (takes ss ps) e in
    let is : IsOf p.layout s (out-Ty q.1) = of_step p.layout s (out-Ty q.1) parts.0 in
    ap (λ (w : ℕ). w ∷ param_widths p ps) is.0 ∙ ap (λ (ws : List ℕ). scalar_width p.layout s ∷ ws) (taken_widths p ss ps parts.1)

-- ---- names: widths of intrinsics on integers

-- an external's width is one of those that it is named with
abbrev pub WidthFits : External → Type 0
WidthFits (external.Swap w) = is_swapped_width w ≡ true
WidthFits (external.UMin w) = is_compared_width w ≡ true
WidthFits (external.UMax w) = is_compared_width w ≡ true
WidthFits (external.SMin w) = is_compared_width w ≡ true
WidthFits (external.SMax w) = is_compared_width w ≡ true
WidthFits _ = Unit {0}

abbrev pub NameFits : Option External → Type 0
NameFits None = Unit {0}
NameFits (Some e) = WidthFits e

fits_if : (b : Bool) (x y : Option External) → NameFits x → NameFits y → NameFits (if b then x else y)
fits_if true x y f g = f
fits_if false x y f g = g

fits_sized : (make : ℕ → External) (o : Option ℕ) (other : Option External) → ((w : ℕ) → o ≡ Some w → WidthFits (make w)) → NameFits other → NameFits (sized make o other)
fits_sized make None other f g = g
fits_sized make (Some w) other f g = f w refl

swapped_words : (a b c d : Bool) (w : ℕ) → at_least 16 (if a then Some 8 else (if b then Some 16 else (if c then Some 32 else (if d then Some 64 else None)))) ≡ Some w → is_swapped_width w ≡ true
swapped_words true b c d w e = absurd (none-some w e)
swapped_words false true c d w e = ap is_swapped_width (sym (same_Some 16 w e))
swapped_words false false true d w e = ap is_swapped_width (sym (same_Some 32 w e))
swapped_words false false false true w e = ap is_swapped_width (sym (same_Some 64 w e))
swapped_words false false false false w e = absurd (none-some w e)

compared_words : (a b c d : Bool) (w : ℕ) → at_least 8 (if a then Some 8 else (if b then Some 16 else (if c then Some 32 else (if d then Some 64 else None)))) ≡ Some w → is_compared_width w ≡ true
compared_words true b c d w e = ap is_compared_width (sym (same_Some 8 w e))
compared_words false true c d w e = ap is_compared_width (sym (same_Some 16 w e))
compared_words false false true d w e = ap is_compared_width (sym (same_Some 32 w e))
compared_words false false false true w e = ap is_compared_width (sym (same_Some 64 w e))
compared_words false false false false w e = absurd (none-some w e)

behind_if : (b : Bool) (o : Option ℕ) (w : ℕ) (P : Type 0) → (o ≡ Some w → P) → (if b then o else None) ≡ Some w → P
behind_if true o w P f e = f e
behind_if false o w P f e = absurd (none-some w e)

swapped_named : (stem name : List ℕ) (w : ℕ) → width_behind 16 stem name ≡ Some w → is_swapped_width w ≡ true
swapped_named stem name w e = behind_if (begins_with stem name) (at_least 16 (width_word (drop (length stem) name))) w (is_swapped_width w ≡ true)
    (swapped_words (bytes_eq (drop (length stem) name) (codes "i8")) (bytes_eq (drop (length stem) name) (codes "i16")) (bytes_eq (drop (length stem) name) (codes "i32")) (bytes_eq (drop (length stem) name) (codes "i64")) w) e

compared_named : (stem name : List ℕ) (w : ℕ) → width_behind 8 stem name ≡ Some w → is_compared_width w ≡ true
compared_named stem name w e = behind_if (begins_with stem name) (at_least 8 (width_word (drop (length stem) name))) w (is_compared_width w ≡ true)
    (compared_words (bytes_eq (drop (length stem) name) (codes "i8")) (bytes_eq (drop (length stem) name) (codes "i16")) (bytes_eq (drop (length stem) name) (codes "i32")) (bytes_eq (drop (length stem) name) (codes "i64")) w) e

integer_fits : (name : List ℕ) → NameFits (integer_named name)
integer_fits name =
    fits_sized external.Swap (width_behind 16 (codes "llvm.bswap.") name) _ (swapped_named (codes "llvm.bswap.") name)
    (fits_sized external.UMin (width_behind 8 (codes "llvm.umin.") name) _ (compared_named (codes "llvm.umin.") name)
    (fits_sized external.UMax (width_behind 8 (codes "llvm.umax.") name) _ (compared_named (codes "llvm.umax.") name)
    (fits_sized external.SMin (width_behind 8 (codes "llvm.smin.") name) _ (compared_named (codes "llvm.smin.") name)
    (fits_sized external.SMax (width_behind 8 (codes "llvm.smax.") name) None (compared_named (codes "llvm.smax.") name) tt))))

library_fits : (name : List ℕ) → NameFits (library_named name)
library_fits name =
    fits_if (bytes_eq name (codes "getchar")) _ _ tt (fits_if (bytes_eq name (codes "putchar")) _ _ tt (fits_if (bytes_eq name (codes "puts")) _ _ tt (fits_if (bytes_eq name (codes "malloc")) _ _ tt
    (fits_if (bytes_eq name (codes "calloc")) _ _ tt (fits_if (bytes_eq name (codes "free")) _ _ tt (fits_if (bytes_eq name (codes "exit")) _ _ tt (fits_if (bytes_eq name (codes "abort")) _ _ tt tt)))))))

mark_fits : (name : List ℕ) → NameFits (mark_named name)
mark_fits name = fits_if (bytes_eq name (codes "llvm.lifetime.start.p0")) _ _ tt (fits_if (bytes_eq name (codes "llvm.lifetime.end.p0")) _ _ tt (fits_if (bytes_eq name (codes "llvm.assume")) _ _ tt tt))

helper_fits : (role : Role) (name : List ℕ) → NameFits (helper_named role name)
helper_fits Source name = tt
helper_fits Part name = fits_if (bytes_eq name (codes "no.alloca")) _ _ tt (fits_if (bytes_eq name (codes "no.map")) _ _ tt tt)

fits_else : (x y : Option External) → NameFits x → NameFits y → NameFits (or_else x y)
fits_else None y f g = g
fits_else (Some e) y f g = f

memory_fits : (name : List ℕ) → NameFits (external_in (memory_named name))
memory_fits name =
    elim (width_behind 32 (codes "llvm.memcpy.p0.p0.") name) as (λ o. NameFits (external_in (ranged external.Move o (ranged external.Move (width_behind 32 (codes "llvm.memmove.p0.p0.") name) (ranged external.Set (width_behind 32 (codes "llvm.memset.p0.") name) None))))) [
      | None ↦ elim (width_behind 32 (codes "llvm.memmove.p0.p0.") name) as (λ o. NameFits (external_in (ranged external.Move o (ranged external.Set (width_behind 32 (codes "llvm.memset.p0.") name) None)))) [
        | None ↦ elim (width_behind 32 (codes "llvm.memset.p0.") name) as (λ o. NameFits (external_in (ranged external.Set o None))) [ None ↦ tt | Some w ↦ tt ]
        | Some w ↦ tt
      ]
      | Some w ↦ tt
    ]

fits_plain : (o : Option External) → NameFits o → NameFits (external_in (plain_row o))
fits_plain None f = tt
fits_plain (Some e) f = f

pub row_fits : (role : Role) (name : List ℕ) → NameFits (external_in (row_named role name))
row_fits role name =
    (elim (memory_named name) as (λ r. NameFits (external_in r) → NameFits (external_in (or_plain r (other_named role name)))) [
      | None ↦ λ f. fits_plain (other_named role name) (fits_else (library_named name) (or_else (mark_named name) (or_else (integer_named name) (helper_named role name))) (library_fits name) (fits_else (mark_named name) (or_else (integer_named name) (helper_named role name)) (mark_fits name) (fits_else (integer_named name) (helper_named role name) (integer_fits name) (helper_fits role name))))
      | Some r ↦ λ f. f
    ]) (memory_fits name)

-- an external by its name and type
pub record IsExternal (e : External) (t : Ty) (ps : List (ℕ × Ty)) : Type 0 where
  pub size : ℕ
  pub typed : is_typed e size t ps ≡ true
  pub width : WidthFits e

by_type : (t : Ty) (ps : List (ℕ × Ty)) (e x : External) (size : ℕ) (b : Bool) → is_typed x size t ps ≡ b → WidthFits x → (if b then Some x else None) ≡ Some e → IsExternal e t ps
by_type t ps e x size true typed fits same = subst (λ (y : External). IsExternal y t ps) (same_Some x e same) (record { size = size; typed = typed; width = fits })
by_type t ps e x size false typed fits same = absurd (none-some e same)

from_name : (role : Role) (name : List ℕ) (t : Ty) (ps : List (ℕ × Ty)) (e : External) → external_typed role name t ps ≡ Some e → IsExternal e t ps
from_name role name t ps e is =
    (elim (row_named role name) as (λ r. NameFits (external_in r) → typed_row r t ps ≡ Some e → IsExternal e t ps) [
      | None ↦ λ f same. absurd (none-some e same)
      | Some r ↦ λ f same. by_type t ps e r.external r.length (is_typed r.external r.length t ps) refl f same
    ]) (row_fits role name) is

pub is_external : (role : Role) (g : Function) (e : External) → external_of role g ≡ Some e → IsExternal e g.result g.params
is_external role g e is = by_declared (is_declared g) is
  where
    by_declared : (b : Bool) → (if b then external_typed role g.name g.result g.params else None) ≡ Some e → IsExternal e g.result g.params
    by_declared true same = from_name role g.name g.result g.params e same
    by_declared false same = absurd (none-some e same)
