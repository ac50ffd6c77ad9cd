-- What a text reads to, by what its definitions and forms give.
use Rattle.std.proofs.Common.{◌≡◌, ℕ, Bool, false, List, [], refl, sym, ap, subst, ◌∙◌, Result, Ok, Err, inl, inr}
use Rattle.no_ir.specs.declared.function.Module.{Module}
use Rattle.no_ir.specs.declared.function.Role.{Role}
use Rattle.no_ir.specs.declared.types.Ty.{Ty}
use Rattle.no_lex.specs.declared.token.Token.{Token}
use Rattle.no_read_rules.specs.declared.fault.Stopped.{Stopped}
use Rattle.no_read_rules.specs.Rules.{Fails, after, all_taken}
use Rattle.no_read_rules.specs.declared.fault.Stop.{Stop}
use Rattle.no_read_rules.specs.declared.fault.Stop.TheVariants as stop
use Rattle.no_read_types.specs.Lifted.{Lifts}
use Rattle.no_read_types.specs.declared.lifted.Lifted.{Lifted}
use Rattle.no_read_types.proofs.LiftedLaws.{lifts_once}
use Rattle.no_read_toplevel.specs.declared.tops.Top.{Top}
use Rattle.no_read_toplevel.specs.Modules.{with_module, forms_read}
use Rattle.no_read_toplevel.specs.Tops.{tops}
use Rattle.no_read.specs.Faults.{read_fault}
use Rattle.no_read.specs.Knowing.{known_of, meaning_of, IsKnown, IsRefused, Knows, Answers, StopsAs}
use Rattle.no_read.specs.Reading.{typed, with_types, IsModuleBy, read_by, IsModule, IsStopped, Reads}
use Rattle.no_read.specs.declared.fault.ReadError.{ReadError}
use Rattle.no_read.specs.declared.fault.ReadError.TheVariants as error
use Rattle.no_read.specs.declared.fault.ReadFault.{ReadFault}
use Rattle.no_read.specs.declared.known.Known.{Known}

-- ---- the forms name no types: those of the text stand beside what they give

typed_later : (text : List ℕ) (types : List (List ℕ × Ty)) (r : Result (List Top × Bool) Stopped) → after r (with_module text types) ≡ after (after r (with_module text [])) (λ m. Ok (with_types types m))
typed_later text types (Ok x) = refl
typed_later text types (Err f) = refl

pub read_untyped : (text : List ℕ) (role : Role) (k : Known) → read_by text role k ≡ after (forms_read (meaning_of text k) role [] k.rest) (λ m. Ok (with_types (typed k) m))
read_untyped text role k = typed_later text (typed k) (after ((tops (meaning_of text k) role).read false k.rest) all_taken)

-- ---- what was read

-- the text's names are known, and the forms are read
pub reads_module : (text : List ℕ) (role : Role) (tokens : List Token) (k : Known) (m : Module) → IsKnown text tokens k → read_by text role k ≡ Ok m
    → ((j : Known) → read_by text role j ≡ Ok m → IsModuleBy text role j m) → IsModule text role tokens m
reads_module text role tokens k m known e exact = record {
  lifted = known.lifted;
  lifts = known.lifts;
  forms = exact (known_of text known.lifted) (subst (λ (j : Known). read_by text role j ≡ Ok m) known.is e);
}

pub stops_forms : (text : List ℕ) (role : Role) (tokens : List Token) (k : Known) (s : Stop) (e : ReadError) → IsKnown text tokens k → Fails s (read_by text role k)
    → StopsAs text tokens s e → Answers {A = Module} (Err e) (Reads text role tokens)
stops_forms text role tokens k stop.NoMemory error.NoMemory known e is = tt
stops_forms text role tokens k stop.NoMemory (error.Fault f) known e is = absurd cc
stops_forms text role tokens k (stop.Fault stopped) error.NoMemory known e is = tt
stops_forms text role tokens k (stop.Fault stopped) (error.Fault f) known e is = inr (record {
  lifted = known.lifted;
  lifts = known.lifts;
  stopped = stopped;
  stops = subst (λ (j : Known). read_by text role j ≡ Err stopped) known.is e;
  is = is;
})

pub refuses : (text : List ℕ) (role : Role) (tokens : List Token) (e : ReadError) → Answers {A = Known} (Err e) (Knows text tokens) → Answers {A = Module} (Err e) (Reads text role tokens)
refuses text role tokens error.NoMemory k = tt
refuses text role tokens (error.Fault f) k = inl k

-- ---- at most one answer

-- what the forms mean is read
abbrev pub IsExact : List ℕ → Role → Type 0
IsExact text role = (k : Known) (m : Module) → IsModuleBy text role k m → read_by text role k ≡ Ok m

abbrev okay : {A B : Type 0} → A → Result A B
okay x = Ok x

abbrev stuck : {A B : Type 0} → B → Result A B
stuck f = Err f

same_okay : {A B : Type 0} (x y : A) → okay {B = B} x ≡ okay y → x ≡ y
same_okay x y e = cc

same_stuck : {A B : Type 0} (x y : B) → stuck {A = A} x ≡ stuck y → x ≡ y
same_stuck x y e = cc

differ : {A B : Type 0} (x : A) (f : B) → okay x ≡ stuck f → ⊥
differ x f e = cc

one_lifted : (text : List ℕ) (tokens : List Token) (a b : Lifted) → Lifts text tokens (Ok a) → Lifts text tokens (Ok b) → a ≡ b
one_lifted text tokens a b p q = same_okay a b (lifts_once text tokens (Ok a) (Ok b) p q)

-- what the forms of the text are read as, by any of its liftings
read_same : (text : List ℕ) (role : Role) (tokens : List Token) (a b : Lifted) → Lifts text tokens (Ok a) → Lifts text tokens (Ok b)
    → read_by text role (known_of text a) ≡ read_by text role (known_of text b)
read_same text role tokens a b p q = ap (λ (x : Lifted). read_by text role (known_of text x)) (one_lifted text tokens a b p q)

never_lifted : (text : List ℕ) (tokens : List Token) (a : Lifted) (f : ReadFault) → Lifts text tokens (Ok a) → IsRefused text tokens f → ⊥
never_lifted text tokens a f p q = differ a q.stopped (lifts_once text tokens (Ok a) (Err q.stopped) p q.lifts)

module _ (text : List ℕ) (role : Role) (tokens : List Token) (exact : IsExact text role) where
  read_as : (m : Module) (p : IsModule text role tokens m) → read_by text role (known_of text p.lifted) ≡ Ok m
  read_as m p = exact (known_of text p.lifted) m p.forms

  pub one_module : (a b : Module) → IsModule text role tokens a → IsModule text role tokens b → a ≡ b
  one_module a b p q = same_okay a b (sym (read_as a p) ∙ read_same text role tokens p.lifted q.lifted p.lifts q.lifts ∙ read_as b q)

  no_fault : (m : Module) (f : ReadFault) → IsModule text role tokens m → IsStopped text role tokens f → ⊥
  no_fault m f p (inl q) = never_lifted text tokens p.lifted f p.lifts q
  no_fault m f p (inr q) = differ m q.stopped (sym (read_as m p) ∙ read_same text role tokens p.lifted q.lifted p.lifts q.lifts ∙ q.stops)

  one_fault : (f g : ReadFault) → IsStopped text role tokens f → IsStopped text role tokens g → f ≡ g
  one_fault f g (inl p) (inl q) = p.is ∙ ap (read_fault text tokens) (same_stuck p.stopped q.stopped (lifts_once text tokens (Err p.stopped) (Err q.stopped) p.lifts q.lifts)) ∙ sym q.is
  one_fault f g (inl p) (inr q) = absurd (never_lifted text tokens q.lifted f q.lifts p)
  one_fault f g (inr p) (inl q) = absurd (never_lifted text tokens p.lifted g p.lifts q)
  one_fault f g (inr p) (inr q) =
      p.is ∙ ap (read_fault text tokens) (same_stuck p.stopped q.stopped (sym p.stops ∙ read_same text role tokens p.lifted q.lifted p.lifts q.lifts ∙ q.stops)) ∙ sym q.is

  pub reads_once : (a b : Result Module ReadFault) → Reads text role tokens a → Reads text role tokens b → a ≡ b
  reads_once (Ok a) (Ok b) p q = ap Ok (one_module a b p q)
  reads_once (Ok a) (Err f) p q = absurd (no_fault a f p q)
  reads_once (Err f) (Ok b) p q = absurd (no_fault b f q p)
  reads_once (Err f) (Err g) p q = ap Err (one_fault f g p q)

  pub only_read : (result : Result Module ReadError) (answer : Result Module ReadFault) → Answers result (Reads text role tokens) → Reads text role tokens answer → Answers result (λ found. found ≡ answer)
  only_read (Ok m) answer p q = reads_once (Ok m) answer p q
  only_read (Err (error.Fault f)) answer p q = reads_once (Err f) answer p q
  only_read (Err error.NoMemory) answer p q = tt
