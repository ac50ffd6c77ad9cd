-- Parameters are read again: in a definition each by its name, in a declaration without one.
use Rattle.std.proofs.Common.{◌≡◌, ℕ, Bool, true, false, List, [], ◌∷◌, ◌++◌, codes, Option, Some, None, inl, inr, refl, sym, ap, subst, ◌∙◌, append-nil}
use Rattle.no_ir.specs.declared.types.Ty.{Ty}
use Rattle.no_lex.specs.declared.token.Token.{Token}
use Rattle.no_lex.specs.declared.token.TokenKind.TheVariants as kind
use Rattle.no_read_rules.specs.Lists.{items}
use Rattle.no_read_rules.specs.Rules.{lift, maybe}
use Rattle.no_read_rules.specs.Scope.{Meaning}
use Rattle.no_read_rules.specs.Spelled.{is_kind, is_sign, only_where}
use Rattle.no_read_rules.specs.Types.{a_type}
use Rattle.no_read_attributes.specs.Attributes.{skip_attributes}
use Rattle.no_read_functions.specs.Heads.{any_name, or_no_name, own_name, place_name, param_name, a_param, params}
use Rattle.no_read_registers.specs.declared.locals.Locals.{Locals}
use Rattle.no_read_registers.specs.Numbered.{register_unnamed, a_definition, no_name}
use Rattle.no_print.specs.Constants.{Spelled, type_at}
use Rattle.no_print.specs.Modules.{type_alone, param_pieces}
use Rattle.no_print.specs.Names.{name_at, spelling, local_name}
use Rattle.no_print.specs.Pieces.{Piece, glued, spaced, sign, with_commas}
use Rattle.no_round_trip.specs.Spells.{AreBytes, Spells, over}
use Rattle.no_round_trip.proofs.RuleFrame.{done_spells, then_spells, made_spells, lift_spells}
use Rattle.no_round_trip.proofs.RuleListing.{IsClose}
use Rattle.no_round_trip.proofs.RuleOpening.{Opens, kept_state, then_opens, lift_opens}
use Rattle.no_round_trip.proofs.RuleSkipping.{change_spells, some_spells, none_spells}
use Rattle.no_round_trip.proofs.RuleStanding.{stand_none, begins, kind_tested}
use Rattle.no_round_trip.proofs.TypeAgain.{type_opens}
use Rattle.no_round_trip.specs.States.{Follows}
use Rattle.no_round_trip.proofs.BodyRegisters.{definition_again, no_name_again}
use Rattle.no_round_trip.proofs.BodyReturning.{Returns}
use Rattle.no_round_trip.proofs.TopBodies.{Alike}
use Rattle.no_round_trip.proofs.TopSteps.{Twice, sign_then}
use Rattle.no_round_trip.proofs.TopWithin.{items_within}

-- ---- a register with its name

module _ (text : List ℕ) where
  own_spells : (z u : Locals) (gap name : List ℕ) (r : ℕ) → Spells text (a_definition text) z (local_name gap name) r u → Spells text (own_name text) z (local_name gap name) r u
  unfolding own_name
  own_spells z u gap name r x =
      then_spells text (maybe (is_kind kind.Local) (a_definition text)) or_no_name z u u (local_name gap name) [] (Some r) r
      (some_spells text (is_kind kind.Local) (a_definition text) z (local_name gap name) r u
      (begins text (is_kind kind.Local) true (local_name gap name) (λ token h. kind_tested text kind.Local (record { gap = gap; kind = kind.Local; bytes = 37 ∷ spelling name }) token h)) x)
      (done_spells text u r)

module _ (from text : List ℕ) (bytes : AreBytes from) (last : Locals) where
  abbrev Own : List ℕ → Locals → ℕ → Locals → Type 0
  Own gap s r t = Returns text last (own_name text) (local_name gap (name_at last.registers r)) r s t

  named : (gap : List ℕ) (s t : Locals) (r : ℕ) → Returns text last (a_definition text) (local_name gap (name_at last.registers r)) r s t → Own gap s r t
  named gap s t r x = record { fine = x.fine; holds = x.holds; spells = λ h w z l. let k = x.spells h w z l in (k.0, k.1, own_spells text z k.0 gap (name_at last.registers r) r k.2) }

  own_again : (gap : List ℕ) (s t : Locals) (tokens : List Token) (r : ℕ) → (own_name from).means s tokens r t → Own gap s r t
  unfolding own_name
  own_again gap s t tokens r m = by m.first m.in_front m.in_back
    where
      by : (o : Option ℕ) → (maybe (is_kind kind.Local) (a_definition from)).means s m.front o m.between → (or_no_name o).means m.between m.back r t → Own gap s r t
      by o (inl f) b =
          let d = f.1 in
          let c : (or_no_name (Some d.first)).means m.between m.back r t = subst (λ (x : Option ℕ). (or_no_name x).means m.between m.back r t) d.in_back.1 b in
          let state : d.between ≡ t = sym d.in_back.2 ∙ sym c.2 in
          subst (λ (n : ℕ). Own gap s n t) (sym c.1) (subst (λ (u : Locals). Own gap s d.first u) state (named gap s d.between d.first (definition_again from text bytes last gap s d.between d.front d.first d.in_front)))
      by o (inr f) b =
          let c : (or_no_name None).means m.between m.back r t = subst (λ (x : Option ℕ). (or_no_name x).means m.between m.back r t) f.1.1 b in
          subst (λ (u : Locals). Own gap u r t) f.1.2 (named gap m.between t r (no_name_again from text bytes last gap m.between t m.back r c))

-- ---- a register that is a place

place_is : (s t : Locals) (tokens : List Token) (r : ℕ) → place_name.means s tokens r t → (r ≡ (register_unnamed s).0) × (t ≡ (register_unnamed s).1)
unfolding place_name
place_is s t tokens r m = by m.first m.in_front
  where
    moved : m.between ≡ s → (r ≡ (register_unnamed s).0) × (t ≡ (register_unnamed s).1)
    moved e = subst (λ (u : Locals). (r ≡ (register_unnamed u).0) × (t ≡ (register_unnamed u).1)) e (m.in_back.1, m.in_back.2)

    by : (o : Option (Unit {0})) → (maybe (is_kind kind.Local) any_name).means s m.front o m.between → (r ≡ (register_unnamed s).0) × (t ≡ (register_unnamed s).1)
    by o (inl f) = moved (f.1.in_back.2 ∙ kept_state s (only_where (is_kind kind.Local f.1.in_front.token)) f.1.first f.1.between f.1.in_front.value)
    by o (inr f) = moved f.1.2

place_spells : (text : List ℕ) (z : Locals) → Spells text place_name z [] (register_unnamed z).0 (register_unnamed z).1
unfolding place_name
place_spells text z = then_spells text (maybe (is_kind kind.Local) any_name) (λ _. no_name) z z (register_unnamed z).1 [] [] None (register_unnamed z).0 (none_spells text (is_kind kind.Local) any_name z) (change_spells text register_unnamed z)

-- ---- parameters

record Param (m : Meaning) (named : Bool) (s : Locals) (a : ℕ × Ty) (t : Locals) : Type 0 where
  pub used : List Token
  pub typed : (a_type m 64).means tt used a.1 tt
  pub own : List Token
  pub called : (param_name m.text named).means s own a.0 t

param_parts : (m : Meaning) (named : Bool) (s t : Locals) (tokens : List Token) (a : ℕ × Ty) → (a_param m named).means s tokens a t → Param m named s a t
unfolding a_param
param_parts m named s t tokens a k =
    let l = k.in_back in
    let n = l.in_back in
    let start : l.between ≡ s = l.in_front.1 ∙ k.in_front.1 in
    let made : (n.first, k.first) ≡ a = sym n.in_back.1 in
    record {
      used = k.front;
      typed = subst (λ (x : ℕ × Ty). (a_type m 64).means tt k.front x.1 tt) made k.in_front.0;
      own = n.front;
      called = subst (λ (u : Locals). (param_name m.text named).means s n.front a.0 u) (sym n.in_back.2)
          (subst (λ (x : ℕ × Ty). (param_name m.text named).means s n.front x.0 n.between) made
          (subst (λ (u : Locals). (param_name m.text named).means u n.front n.first n.between) start n.in_front));
    }

skip_spells : (text : List ℕ) → Spells text (skip_attributes text) tt [] tt tt
skip_spells text tokens stand = record { front = []; back = tokens; first = []; between = tt; parts = refl; in_front = inr (refl, (refl, refl, refl)); in_back = (stand_none text tokens stand, refl, refl) }

param_spells : (m : Meaning) (named : Bool) (z u : Locals) (front own : List Piece) (r : ℕ) (t : Ty) → Spells m.text (a_type m 64) tt front t tt → Spells m.text (param_name m.text named) z own r u
    → Spells m.text (a_param m named) z (front ++ own) (r, t) u
unfolding a_param
param_spells m named z u front own r t x y =
    then_spells m.text (lift (a_type m 64)) _ z z u front own t (r, t) (lift_spells m.text (a_type m 64) z front t x)
    (then_spells m.text (lift (skip_attributes m.text)) _ z z u [] own tt (r, t) (lift_spells m.text (skip_attributes m.text) z [] tt (skip_spells m.text))
    (made_spells m.text (param_name m.text named) (λ register. (register, t)) z u own r y))

param_opens : (m : Meaning) (named : Bool) → Opens (is_sign m.text (codes ")")) false (a_param m named)
unfolding a_param
param_opens m named = then_opens (is_sign m.text (codes ")")) false (lift (a_type m 64)) _ (lift_opens (is_sign m.text (codes ")")) false (a_type m 64) (type_opens m 64 (codes ")") refl))

closing : IsClose (codes ")")
closing = record { same = refl; other = refl }

-- parameters that were read are spelled again, where this holds behind them, from any state that is like the one before
abbrev pub ParamsAgain : Meaning → List ℕ → Bool → (Locals → Locals → Type 0) → (Locals → Type 0) → (List ℕ → ℕ × Ty → List Piece) → Type 0
ParamsAgain m text named Same P f =
    (s z t : Locals) (tokens : List Token) (all : List (ℕ × Ty)) → Same s z → (params m named).means s tokens all t → P t
    → (u : Locals) × Same t u × Spells text (params (over m text) named) z (sign glued (codes "(") ++ (with_commas f glued all ++ sign glued (codes ")"))) all u

module _ (m : Meaning) (text : List ℕ) (sp : Spelled) (typed : (gap : List ℕ) → Twice text (a_type m 64) (a_type (over m text) 64) (type_at sp gap)) where
  module _ (named : Bool) (Same : Locals → Locals → Type 0) (P : Locals → Type 0) (f : List ℕ → ℕ × Ty → List Piece)
      (before : (s t : Locals) (tokens : List Token) (a : ℕ × Ty) → (a_param m named).means s tokens a t → P t → P s)
      (again : (gap : List ℕ) (s z t : Locals) (tokens : List Token) (a : ℕ × Ty) → Same s z → (a_param m named).means s tokens a t → P t → (u : Locals) × Same t u × Spells text (a_param (over m text) named) z (f gap a) a u) where
    params_by : ParamsAgain m text named Same P f
    unfolding params
    params_by s z t tokens all like k p =
        let kept : k.between ≡ s = kept_state s _ k.first k.between k.in_front.value in
        let x = items_within Same P m.text text (codes ")") (a_param m named) (a_param (over m text) named) f closing before again (param_opens (over m text) named) glued glued k.between z t k.back all
        (subst (λ (v : Locals). Same v z) (sym kept) like) k.in_back p in
        (x.0, x.1, sign_then text glued (codes "(") (λ _. items text (codes ")") (a_param (over m text) named)) z x.0 (with_commas f glued all ++ sign glued (codes ")")) all refl x.2)

  -- ---- in a declaration

  alone_again : (gap : List ℕ) (s z t : Locals) (tokens : List Token) (a : ℕ × Ty) → s ≡ z → (a_param m false).means s tokens a t → Unit {0}
      → (u : Locals) × (t ≡ u) × Spells text (a_param (over m text) false) z (type_alone sp gap a) a u
  alone_again gap s z t tokens a like k _ =
      let p = param_parts m false s t tokens a k in
      let c = place_is s t p.own a.0 p.called in
      let number : (register_unnamed z).0 ≡ a.0 = ap (λ (v : Locals). (register_unnamed v).0) (sym like) ∙ sym c.0 in
      let spells = param_spells (over m text) false z (register_unnamed z).1 (type_at sp gap a.1) [] (register_unnamed z).0 a.1 (typed gap p.used a.1 p.typed) (place_spells text z) in (
        (register_unnamed z).1,
        c.1 ∙ ap (λ (v : Locals). (register_unnamed v).1) like,
        subst (λ (l : List Piece). Spells text (a_param (over m text) false) z l a (register_unnamed z).1) (append-nil (type_at sp gap a.1))
            (subst (λ (n : ℕ). Spells text (a_param (over m text) false) z (type_at sp gap a.1 ++ []) (n, a.1) (register_unnamed z).1) number spells),
      )

  pub declared_again : ParamsAgain m text false (λ s z. s ≡ z) (λ t. Unit {0}) (type_alone sp)
  declared_again = params_by false (λ s z. s ≡ z) (λ t. Unit {0}) (type_alone sp) (λ s t tokens a k p. tt) alone_again

  -- ---- in a definition

  module _ (bytes : AreBytes m.text) (last : Locals) where
    named_param : (gap : List ℕ) (s t : Locals) (tokens : List Token) (a : ℕ × Ty) → (a_param m true).means s tokens a t
        → Returns text last (a_param (over m text) true) (param_pieces sp last.registers gap a) a s t
    named_param gap s t tokens a k =
        let p = param_parts m true s t tokens a k in
        let x = own_again m.text text bytes last spaced s t p.own a.0 p.called in
        record {
          fine = x.fine;
          holds = x.holds;
          spells = λ h w z l.
              let y = x.spells h w z l in
              (y.0, y.1, param_spells (over m text) true z y.0 (type_at sp gap a.1) (local_name spaced (name_at last.registers a.0)) a.0 a.1 (typed gap p.used a.1 p.typed) y.2);
        }

    named_before : (s t : Locals) (tokens : List Token) (a : ℕ × Ty) → (a_param m true).means s tokens a t → Follows t last → Follows s last
    named_before s t tokens a k w = (named_param spaced s t tokens a k).holds w

    named_again : (gap : List ℕ) (s z t : Locals) (tokens : List Token) (a : ℕ × Ty) → Alike s z → (a_param m true).means s tokens a t → Follows t last
        → (u : Locals) × Alike t u × Spells text (a_param (over m text) true) z (param_pieces sp last.registers gap a) a u
    named_again gap s z t tokens a alike k w =
        let x = named_param gap s t tokens a k in
        let y = x.spells alike.fine w z alike.like in
        (y.0, record { like = y.1; fine = x.fine alike.fine }, y.2)

    pub defined_again : ParamsAgain m text true Alike (λ s. Follows s last) (param_pieces sp last.registers)
    defined_again = params_by true Alike (λ s. Follows s last) (param_pieces sp last.registers) named_before named_again
