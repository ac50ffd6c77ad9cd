-- The forms at the top of a text that was read, and what is known of each.
use Rattle.std.proofs.Common.{◌≡◌, ℕ, Bool, true, false, List, [], ◌∷◌, ◌++◌, bytes_eq, Option, Some, None, if◌then◌else◌, ◌⊎◌, inl, inr, refl, sym, ap, subst, ◌∙◌}
use Rattle.no_ir.specs.declared.function.Role.{Role}
use Rattle.no_lex.specs.declared.token.Token.{Token}
use Rattle.no_read_rules.specs.Repeated.{IsRepeated}
use Rattle.no_read_rules.specs.Scope.{Meaning}
use Rattle.no_read_rules.specs.Spelled.{spelled}
use Rattle.no_read_attributes.specs.declared.marks.Mark.{Mark}
use Rattle.no_read_attributes.specs.declared.marks.Mark.TheVariants as mark
use Rattle.no_read_toplevel.specs.Globals.{a_global}
use Rattle.no_read_functions.specs.declared.heads.Head.{Head}
use Rattle.no_read_registers.specs.declared.locals.Locals.{Locals}
use Rattle.no_read_registers.specs.Numbered.{no_locals_yet}
use Rattle.no_read_functions.specs.declared.functions.Written.{Written}
use Rattle.no_read_toplevel.specs.declared.groups.Settings.{Settings}
use Rattle.no_read_toplevel.specs.declared.tops.Top.{Top}
use Rattle.no_read_toplevel.specs.declared.tops.Top.TheVariants as top
use Rattle.no_read_toplevel.specs.declared.tops.TopWord.{TopWord}
use Rattle.no_read_toplevel.specs.declared.tops.TopWord.TheVariants as begins
use Rattle.no_read_functions.specs.Functions.{head_body, a_function}
use Rattle.no_read_toplevel.specs.Grouping.{nothing_set, set_by, set_by_all, found_in, all_grouped, no_groups}
use Rattle.no_read_toplevel.specs.Modules.{with_marks, layout_or}
use Rattle.no_read_toplevel.specs.Tops.{source_top, layout_top, target_top, function_top, declared, declared_top, group_top, global_top, node_top, after_word, worded, a_top, more_tops}
use Rattle.no_read_toplevel.specs.WrittenOut.{marks_named, written_out}
use Rattle.no_read_toplevel.proofs.WrittenLaws.{written_out_is}
use Rattle.no_round_trip.specs.Spells.{AreBytes}
use Rattle.no_round_trip.proofs.WordBytes.{bytes_string, bytes_spelled}
use Rattle.no_round_trip.proofs.TopHeads.{head_marks_may}
use Rattle.no_round_trip.proofs.TopMarks.{MayStand, MaySet, AllSet, all_append, read_may}
use Rattle.no_read_toplevel.specs.Entities.{layout_of, a_target, a_group, a_declaration}

some_is : {A : Type 0} (a b : A) → Some a ≡ Some b → a ≡ b
some_is a b e = cc

some_none : {A : Type 0} (a : A) → Some a ≡ None → ⊥
some_none a e = cc

-- ---- what attributes set, those of groups too

set_may : (role : Role) (s : Settings) (m : Mark) → MayStand role s.address → MaySet role m → MayStand role (set_by s m).address
set_may role s mark.Bound x y = x
set_may role s (mark.Address n) x y = y
set_may role s (mark.Group group) x y = x

all_may : (role : Role) (s : Settings) (marks : List Mark) → MayStand role s.address → AllSet role marks → MayStand role (set_by_all s marks).address
all_may role s [] x y = x
all_may role s (m ∷ marks) x y = all_may role (set_by s m) marks (set_may role s m x y.0) y.1

-- ---- one form

module _ (m : Meaning) (role : Role) where
  -- a function was defined, or declared
  abbrev pub WasRead : Written → Type 0
  WasRead w =
      ((tokens : List Token) × (a_function m role).means tt tokens w tt)
      ⊎ ((tokens : List Token) × (d : Head × Locals) × (a_declaration m role).means tt tokens d tt × (declared d ≡ w))

  abbrev pub FormRead : Top → Type 0
  FormRead top.Nothing = Unit {0}
  FormRead (top.Layout layout) = AreBytes layout
  FormRead (top.Group token marks) = AllSet role marks
  FormRead (top.Global g) = (tokens : List Token) × (a_global m).means tt tokens g tt
  FormRead (top.Function w) = WasRead w × AllSet role w.head.marks

  abbrev pub FormsRead : List Top → Type 0
  FormsRead [] = Unit {0}
  FormsRead (x ∷ forms) = FormRead x × FormsRead forms

  -- ---- groups

  named_may : (text name : List ℕ) (forms : List Top) → FormsRead forms → AllSet role (marks_named text name forms)
  named_may text name [] r = tt
  named_may text name (top.Nothing ∷ forms) r = named_may text name forms r.1
  named_may text name (top.Layout layout ∷ forms) r = named_may text name forms r.1
  named_may text name (top.Global g ∷ forms) r = named_may text name forms r.1
  named_may text name (top.Function w ∷ forms) r = named_may text name forms r.1
  named_may text name (top.Group token marks ∷ forms) r = by (bytes_eq name (spelled text token)) (named_may text name forms r.1)
    where
      by : (b : Bool) → AllSet role (marks_named text name forms) → AllSet role ((if b then marks else []) ++ marks_named text name forms)
      by true more = all_append role marks (marks_named text name forms) r.0 more
      by false more = more

  written_may : (text : List ℕ) (forms : List Top) (marks : List Mark) → FormsRead forms → AllSet role marks → AllSet role (written_out text forms marks)
  written_may text forms [] r x = tt
  written_may text forms (mark.Bound ∷ marks) r x = (tt, written_may text forms marks r x.1)
  written_may text forms (mark.Address n ∷ marks) r x = (x.0, written_may text forms marks r x.1)
  written_may text forms (mark.Group group ∷ marks) r x =
      all_append role (marks_named text (spelled text group) forms) (written_out text forms marks) (named_may text (spelled text group) forms r) (written_may text forms marks r x.1)

  pub settings_may : (text : List ℕ) (forms : List Top) (marks : List Mark) → FormsRead forms → AllSet role marks
      → MayStand role (with_marks text (found_in (all_grouped text no_groups forms)) nothing_set marks).address
  settings_may text forms marks r x =
      subst (λ (s : Settings). MayStand role s.address) (sym (written_out_is text forms marks))
      (all_may role nothing_set (written_out text forms marks) tt (written_may text forms marks r x))

  -- ---- the layout

  pub layout_bytes : (layout : List ℕ) (forms : List Top) → AreBytes layout → FormsRead forms → AreBytes (layout_or layout forms)
  layout_bytes layout [] h r = h
  layout_bytes layout (top.Nothing ∷ forms) h r = layout_bytes layout forms h r.1
  layout_bytes layout (top.Layout stated ∷ forms) h r = layout_bytes stated forms r.0 r.1
  layout_bytes layout (top.Global g ∷ forms) h r = layout_bytes layout forms h r.1
  layout_bytes layout (top.Function w ∷ forms) h r = layout_bytes layout forms h r.1
  layout_bytes layout (top.Group token marks ∷ forms) h r = layout_bytes layout forms h r.1

  -- ---- what was read

  module _ (bytes : AreBytes m.text) where
    layout_read : (layout : Bool) (token : Token) → FormRead (layout_top (layout_of m.text layout token))
    layout_read true token = bytes_string (spelled m.text token) (bytes_spelled m.text token bytes)
    layout_read false token = tt

    target_read : (s t : Bool) (tokens : List Token) (o : Option (List ℕ)) → (a_target m.text).means s tokens o t → FormRead (layout_top o)
    unfolding a_target
    target_read s t tokens o k =
        let v = k.in_back.in_back in
        subst (λ (o : Option (List ℕ)). FormRead (layout_top o)) (sym v.in_back.1) (layout_read k.first v.first)

    group_read : (tokens : List Token) (g : Token × List Mark) → (a_group m.text role).means tt tokens g tt → AllSet role g.1
    unfolding a_group
    group_read tokens g k =
        let a = k.in_back.in_back.in_back in
        let c = a.in_back in
        subst (λ (g : Token × List Mark). AllSet role g.1) (sym c.in_back.1) (read_may m.text role a.front a.first a.in_front)

    function_marks : (tokens : List Token) (w : Written) → (a_function m role).means tt tokens w tt → AllSet role w.head.marks
    unfolding a_function head_body
    function_marks tokens w k =
        let hb = k.in_front.0 in
        let bd = hb.in_back.in_back in
        let h : hb.first ≡ w.head = (λ i. (sym bd.in_back.1 i).0) ∙ ap (λ (w : Written). w.head) (sym k.in_back.1) in
        subst (λ (h : Head). AllSet role h.marks) h (head_marks_may m role true no_locals_yet hb.between hb.front hb.first hb.in_front)

    word_read : (w : TopWord) (s t : Bool) (tokens : List Token) (x : Top) → (after_word m role w).means s tokens x t → FormRead x
    unfolding source_top target_top function_top declared_top group_top
    word_read begins.Source s t tokens x k = subst FormRead (sym k.in_back.1) tt
    word_read begins.Target s t tokens x k = subst FormRead (sym k.in_back.1) (target_read s k.between k.front k.first k.in_front)
    word_read begins.Define s t tokens x k = subst FormRead (sym k.in_back.1) (inl (k.front, k.in_front.0), function_marks k.front k.first k.in_front.0)
    word_read begins.Declare s t tokens x k = subst FormRead (sym k.in_back.1) (inr (k.front, k.first, k.in_front.0, refl), head_marks_may m role false no_locals_yet k.first.1 k.front k.first.0 k.in_front.0.0)
    word_read begins.Attributes s t tokens x k = subst FormRead (sym k.in_back.1) (group_read k.front k.first k.in_front.0)

    top_read : (s t : Bool) (tokens : List Token) (x : Top) → (a_top m role).means s tokens x t → FormRead x
    unfolding a_top global_top node_top worded
    top_read s t tokens x (inl k) = subst FormRead (sym k.1.in_back.1) (k.1.front, k.1.in_front.0)
    top_read s t tokens x (inr (z, inl k)) = subst FormRead (sym k.1.in_back.1) tt
    top_read s t tokens x (inr (z, inr k)) = word_read k.1.first k.1.between t k.1.back x k.1.in_back

    more_read : (s t : Bool) (tokens : List Token) (x : Top) → (more_tops m role).means s tokens (Some x) t → FormRead x
    more_read s t tokens x (inl k) = subst FormRead (sym (some_is x k.1.first k.1.in_back.1)) (top_read s k.1.between k.1.front k.1.first k.1.in_front)
    more_read s t tokens x (inr k) = absurd (some_none x k.1.1)

    pub forms_read : (s t : Bool) (tokens : List Token) (forms : List Top) → IsRepeated (more_tops m role) s tokens forms t → FormsRead forms
    forms_read s t tokens [] k = tt
    forms_read s t tokens (x ∷ forms) k = (more_read s k.between k.front x k.item, forms_read k.between t k.back forms k.others)
