-- Where the fault of a whole text stands.
use Rattle.std.proofs.Common.{◌≡◌, ℕ, Bool, false, List, [], ◌∷◌, ◌++◌, ◌⊎◌, Some, None, is_none, Result, Ok, Err, inl, inr, refl, sym, ap, subst, ◌∙◌, append_assoc, append-nil, true≢false}
use Rattle.no_lex.specs.declared.token.Token.{Token}
use Rattle.no_ir.specs.declared.types.Ty.{Ty}
use Rattle.no_ir.specs.declared.function.Module.{Module}
use Rattle.no_ir.specs.declared.function.Role.{Role}
use Rattle.no_read_rules.specs.declared.fault.Flaw.TheVariants.{Syntax}
use Rattle.no_read_rules.specs.declared.fault.Stopped.{Stopped}
use Rattle.no_read_rules.specs.Rules.{fault, after, all_taken}
use Rattle.no_read_rules.specs.Scope.{Meaning}
use Rattle.no_read_types.specs.declared.lifted.Lifted.{Lifted}
use Rattle.no_read_types.specs.Lifted.{Lifts}
use Rattle.no_read_types.proofs.LiftedLaws.{lifts_once}
use Rattle.no_read_toplevel.specs.declared.tops.Top.{Top}
use Rattle.no_read_toplevel.specs.Tops.{tops}
use Rattle.no_read_toplevel.specs.Modules.{with_module, IsModuleOf, forms_read}
use Rattle.no_read_toplevel.proofs.ModuleLaws.{meant_is_read}
use Rattle.no_read.specs.Knowing.{IsRefused, known_of, meaning_of}
use Rattle.no_read.specs.Reading.{typed, IsModule, IsStuck, Reads}
use Rattle.no_read.specs.declared.fault.ReadFault.{ReadFault}
use Rattle.no_fault_places.specs.Alike.{AreAlike, IsTypedAlike}
use Rattle.no_fault_places.specs.Prefixes.{Takes, Stops}
use Rattle.no_fault_places.specs.Places.{StandsAt, IsPlaced, IsBarred, BeginsAlike, IsBarredText, IsFormFault}
use Rattle.no_fault_places.proofs.Alike.{Any, EndAlike, AnswerAlike}
use Rattle.no_fault_places.proofs.AlikeTypes.{typing, lifted_formed}
use Rattle.no_fault_places.proofs.AlikeModules.{tops_alike}
use Rattle.no_fault_places.proofs.Prefix.{from_err, after_err}
use Rattle.no_fault_places.proofs.Modules.{tops_steady}

abbrev Forms : Type 0
Forms = List Top × Bool

abbrev Answer : Type 0
Answer = Result (List Top × Bool × List Token) Stopped

-- ---- what tokens up to a fault say of all that begins with them

module _ (m : Meaning) (role : Role) (types : List (List ℕ × Ty)) where
  barred : (tokens : List Token) (found : Module) (e : Stopped) → forms_read m role types tokens ≡ Err e → IsModuleOf m role types tokens found → ⊥
  barred tokens found e k is = apart found (meant_is_read m role types tokens found is) k
    where
      apart : (found : Module) → forms_read m role types tokens ≡ Ok found → forms_read m role types tokens ≡ Err e → ⊥
      apart found a b = cc

  stopped_again : (tokens : List Token) (e : Stopped) → (tops m role).read false tokens ≡ Err e → forms_read m role types tokens ≡ Err e
  stopped_again tokens e k = rw k refl

  left_again : (tokens : List Token) (all : List Top) (stated : Bool) (t : Token) (ts : List Token) → (tops m role).read false tokens ≡ Ok (all, stated, t ∷ ts) → forms_read m role types tokens ≡ Err (fault Syntax (t ∷ ts))
  left_again tokens all stated t ts k = rw k refl

  -- a form is refused, and not for the end of the tokens
  stopped_never : (used : List Token) (e : Stopped) → (e.at ≡ None → ⊥) → (tops m role).read false used ≡ Err e → (other : List Token) (found : Module) → IsModuleOf m role types (used ++ other) found → ⊥
  stopped_never used e at k other found is = go ((tops_steady m role).stops false used e k)
    where
      go : Stops (tops m role) false used e → ⊥
      go (inl none) = at none
      go (inr r) =
          let whole : used ++ other ≡ r.before ++ (r.token ∷ (r.more ++ (r.rest ++ other))) =
          ap (λ (l : List Token). l ++ other) r.parts
          ∙ append_assoc r.before (r.token ∷ (r.more ++ r.rest)) other
          ∙ ap (λ (l : List Token). r.before ++ (r.token ∷ l)) (append_assoc r.more r.rest other) in
          barred (used ++ other) found e (ap (forms_read m role types) whole ∙ stopped_again (r.before ++ (r.token ∷ (r.more ++ (r.rest ++ other)))) e (r.again (r.rest ++ other))) is

  -- a token is left behind the forms
  left_never : (used : List Token) (all : List Top) (stated : Bool) (t : Token) → (tops m role).read false used ≡ Ok (all, stated, t ∷ []) → (other : List Token) (found : Module) → IsModuleOf m role types (used ++ other) found → ⊥
  left_never used all stated t k other found is =
      let r = (tops_steady m role).takes false used (all, stated, t ∷ []) k in
      let whole : used ++ other ≡ r.used ++ (t ∷ other) = ap (λ (l : List Token). l ++ other) r.parts ∙ append_assoc r.used (t ∷ []) other in
      barred (used ++ other) found (fault Syntax (t ∷ other)) (ap (forms_read m role types) whole ∙ left_again (r.used ++ (t ∷ other)) all stated t other (r.again (t ∷ other) refl)) is

-- ---- and of all texts that begin alike

module _ (m there : Meaning) (role : Role) (all : List (List ℕ × Ty)) (used front : List Token) (alike : AreAlike m there used front) (same : IsTypedAlike m there) where
  answers : AnswerAlike m there Any ((tops m role).read false used) ((tops there role).read false front)
  answers = (tops_alike m there (typing m there same) role).answers false used front alike

  stopped_elsewhere : (e : Stopped) (place : ℕ) → e.at ≡ Some place → (tops m role).read false used ≡ Err e → (other : List Token) (found : Module) → IsModuleOf there role all (front ++ other) found → ⊥
  stopped_elsewhere e place at k other found is = go ((tops there role).read false front) refl (subst (λ (r : Answer). AnswerAlike m there Any r ((tops there role).read false front)) k answers)
    where
      never : (d : Stopped) → EndAlike e d → d.at ≡ None → ⊥
      never d l none = true≢false (sym (ap is_none none) ∙ l ∙ ap is_none at)

      go : (r : Answer) → (tops there role).read false front ≡ r → AnswerAlike m there Any (Err e) r → ⊥
      go (Ok y) i l = absurd l
      go (Err d) i l = stopped_never there role all front d (never d l) i other found is

  left_elsewhere : (forms : List Top) (stated : Bool) (t : Token) → (tops m role).read false used ≡ Ok (forms, stated, t ∷ []) → (other : List Token) (found : Module) → IsModuleOf there role all (front ++ other) found → ⊥
  left_elsewhere forms stated t k other found is = go ((tops there role).read false front) refl (subst (λ (r : Answer). AnswerAlike m there Any r ((tops there role).read false front)) k answers)
    where
      left : (x : List Top) (s : Bool) (us : List Token) → (tops there role).read false front ≡ Ok (x, s, us) → AreAlike m there (t ∷ []) us → ⊥
      left x s [] i l = absurd l
      left x s (u ∷ []) i l = left_never there role all front x s u i other found is
      left x s (u ∷ v ∷ us) i l = absurd l.1

      go : (r : Answer) → (tops there role).read false front ≡ r → AnswerAlike m there Any (Ok (forms, stated, t ∷ [])) r → ⊥
      go (Ok y) i l = left y.0 y.1 y.2 i l.rest
      go (Err d) i l = absurd l

-- ---- where the fault of forms stands

module _ (m : Meaning) (role : Role) (types : List (List ℕ × Ty)) where
  abbrev Placed : List Token → Stopped → Type 0
  Placed tokens e = IsPlaced (IsBarred m role types) tokens e

  -- tokens are left behind the forms
  left : (tokens : List Token) (e : Stopped) (all : List Top) (stated : Bool) (rest : List Token) → Takes (tops m role) false tokens (all, stated, rest) → all_taken (all, stated, rest) ≡ Err e → Placed tokens e
  left tokens e all stated [] k l = absurd cc
  left tokens e all stated (t ∷ ts) k l =
      inr (subst (StandsAt (IsBarred m role types) tokens) (from_err {A = Forms} (fault Syntax (t ∷ ts)) e l) (record {
        before = k.used;
        token = t;
        more = [];
        rest = ts;
        parts = k.parts;
        at = refl;
        part = inl refl;
        barred = record {
          here = left_never m role types (k.used ++ (t ∷ [])) all stated t (k.again (t ∷ []) refl);
          elsewhere = λ there others front other found alike same is. left_elsewhere m there role others (k.used ++ (t ∷ [])) front alike same all stated t (k.again (t ∷ []) refl) other found is;
        };
      }))

  stopped : (tokens : List Token) (e : Stopped) → Stops (tops m role) false tokens e → Placed tokens e
  stopped tokens e (inl n) = inl n
  stopped tokens e (inr r) = inr (record {
    before = r.before;
    token = r.token;
    more = r.more;
    rest = r.rest;
    parts = r.parts;
    at = r.at;
    part = r.part;
    barred = record {
      here = stopped_never m role types (r.before ++ (r.token ∷ r.more)) e never read;
      elsewhere = λ there others front other found alike same is. stopped_elsewhere m there role others (r.before ++ (r.token ∷ r.more)) front alike same e r.token.start r.at read other found is;
    };
  })
    where
      never : e.at ≡ None → ⊥
      never none = true≢false (sym (ap is_none none) ∙ ap is_none r.at)

      read : (tops m role).read false (r.before ++ (r.token ∷ r.more)) ≡ Err e
      read = ap (λ (l : List Token). (tops m role).read false (r.before ++ (r.token ∷ l))) (sym (append-nil r.more)) ∙ r.again []

  pub placed : (tokens : List Token) (e : Stopped) → forms_read m role types tokens ≡ Err e → Placed tokens e
  placed tokens e k = go (after_err (after ((tops m role).read false tokens) all_taken) (with_module m.text types) e k)
    where
      never : (x : Forms) → with_module m.text types x ≡ Err e → ⊥
      never x l = cc

      inner : ((tops m role).read false tokens ≡ Err e) ⊎ ((x : List Top × Bool × List Token) × ((tops m role).read false tokens ≡ Ok x) × (all_taken x ≡ Err e)) → Placed tokens e
      inner (inl l) = stopped tokens e ((tops_steady m role).stops false tokens e l)
      inner (inr l) = left tokens e l.0.0 l.0.1 l.0.2 ((tops_steady m role).takes false tokens l.0 l.1) l.2

      go : (after ((tops m role).read false tokens) all_taken ≡ Err e) ⊎ ((x : Forms) × (after ((tops m role).read false tokens) all_taken ≡ Ok x) × (with_module m.text types x ≡ Err e)) → Placed tokens e
      go (inl l) = inner (after_err ((tops m role).read false tokens) all_taken e l)
      go (inr l) = absurd (never l.0 l.2)

-- ---- where the fault of a text stands

module _ (text : List ℕ) (role : Role) (tokens : List Token) (lifted : Lifted) (lifts : Lifts text tokens (Ok lifted)) where
  module _ (used : List Token) (forms : IsBarred (meaning_of text (known_of text lifted)) role (typed (known_of text lifted)) used) where
    abbrev okay : Lifted → Result Lifted Stopped
    okay x = Ok x

    same_okay : (x y : Lifted) → okay x ≡ okay y → x ≡ y
    same_okay x y e = cc

    never_read : (other : List ℕ) (others : List Token) (found : Module) → BeginsAlike text lifted used other others → IsModule other role others found → ⊥
    never_read other others found b k =
        let one : k.lifted ≡ b.found = same_okay k.lifted b.found (lifts_once other others (Ok k.lifted) (Ok b.found) k.lifts b.lifts) in
        let is : IsModuleOf (meaning_of other (known_of other b.found)) role (typed (known_of other b.found)) b.found.rest found =
        subst (λ (x : Lifted). IsModuleOf (meaning_of other (known_of other x)) role (typed (known_of other x)) x.rest found) one k.forms in
        forms.elsewhere (meaning_of other (known_of other b.found)) (typed (known_of other b.found)) b.front b.rest found b.alike (record { same = b.types; formed = lifted_formed text tokens lifted lifts })
        (subst (λ (l : List Token). IsModuleOf (meaning_of other (known_of other b.found)) role (typed (known_of other b.found)) l found) b.parts is)

    barred_text : IsBarredText text role lifted used
    barred_text = record { forms = forms; texts = never_read }

  in_text : (e : Stopped) → IsPlaced (IsBarred (meaning_of text (known_of text lifted)) role (typed (known_of text lifted))) lifted.rest e → IsPlaced (IsBarredText text role lifted) lifted.rest e
  in_text e (inl n) = inl n
  in_text e (inr s) = inr (record { before = s.before; token = s.token; more = s.more; rest = s.rest; parts = s.parts; at = s.at; part = s.part; barred = barred_text (s.before ++ (s.token ∷ s.more)) s.barred })

pub text_placed : (text : List ℕ) (role : Role) (tokens : List Token) (f : ReadFault) → Reads text role tokens (Err f) → IsRefused text tokens f ⊎ IsFormFault text role tokens f
text_placed text role tokens f r = go r
  where
    go : IsRefused text tokens f ⊎ IsStuck text role tokens f → IsRefused text tokens f ⊎ IsFormFault text role tokens f
    go (inl refused) = inl refused
    go (inr stuck) = inr (record {
      lifted = stuck.lifted;
      lifts = stuck.lifts;
      stopped = stuck.stopped;
      is = stuck.is;
      placed = in_text text role tokens stuck.lifted stuck.lifts stuck.stopped (placed (meaning_of text (known_of text stuck.lifted)) role (typed (known_of text stuck.lifted)) stuck.lifted.rest stuck.stopped stuck.stops);
    })
