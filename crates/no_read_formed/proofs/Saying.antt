-- What the values of rules are, for each way to make a rule. A rule over the names of a function says it of each function that
-- has at least as many names as have appeared.
use Rattle.std.proofs.Common.{◌≡◌, ℕ, suc, zero, ◌≤◌, Bool, true, false, List, [], ◌∷◌, ◌++◌, length, if◌then◌else◌, Option, Some, None, Result, Ok, Err, inl, inr, refl, sym, ap, subst, ◌∙◌, arith}
use Rattle.std.specs.List.{list_all}
use Rattle.no_lex.specs.declared.token.Token.{Token}
use Rattle.no_read_rules.specs.declared.fault.Flaw.{Flaw}
use Rattle.no_read_rules.specs.Lists.{closes_list, more_item, some_items, no_items, items}
use Rattle.no_read_rules.specs.Repeated.{repeat}
use Rattle.no_read_rules.specs.Rules.{Rule, one, keeping, plain, done, change, ◌>>=◌, lift, choose, if_next, maybe, checked}
use Rattle.no_read_rules.specs.Spelled.{is_sign, a_sign, only_where}
use Rattle.no_read_constants.specs.Skipped.{behind}
use Rattle.no_read_attributes.specs.Ending.{ahead}
use Rattle.no_read_operations.specs.Folded.{folded, AreSteps}
use Rattle.no_read_registers.specs.declared.locals.Locals.{Locals}

-- ---- rules whose value does not speak of names

-- each meaning of a rule says this of its value
abbrev pub All : {S A : Type 0} → (A → Type 0) → Rule S A → Type 0
All {S = S} {A = A} P p = (s t : S) (used : List Token) (a : A) → p.means s used a t → P a

abbrev okay : {A : Type 0} → A → Result A Flaw
okay x = Ok x

from_ok : {A : Type 0} (x y : A) → okay x ≡ okay y → x ≡ y
from_ok x y e = cc

pub kept : {S A : Type 0} (s t : S) (a : A) (r : Result A Flaw) → keeping s r ≡ Ok (a, t) → r ≡ Ok a
kept {S = S} {A = A} s t a (Ok x) e = ap (λ (y : A). Ok y) (ap (λ (z : A × S). z.0) (from_ok (x, s) (a, t) e))
kept s t a (Err flaw) e = absurd cc

pub kept_state : {S A : Type 0} (s t : S) (a : A) (r : Result A Flaw) → keeping s r ≡ Ok (a, t) → t ≡ s
kept_state {S = S} {A = A} s t a (Ok x) e = sym (ap (λ (z : A × S). z.1) (from_ok (x, s) (a, t) e))
kept_state s t a (Err flaw) e = absurd cc

module _ {S A : Type 0} (P : A → Type 0) where
  pub plain_all : (f : Token → Result A Flaw) → ((a : A) (u : Token) → f u ≡ Ok a → P a) → All {S = S} P (plain f)
  plain_all f h s t used a m = h a m.token (kept s t a (f m.token) m.value)

  pub done_all : (a : A) → P a → All {S = S} P (done a)
  done_all a h s t used b m = subst P (sym m.1) h

  pub if_next_all : (test : Token → Bool) (p q : Rule S A) → All P p → All P q → All P (if_next test p q)
  if_next_all test p q h k s t used a (inl m) = h s t used a m.1
  if_next_all test p q h k s t used a (inr m) = k s t used a m.1

  pub choose_all : (b : Bool) (p q : Rule S A) → All P p → All P q → All P (choose b p q)
  choose_all true p q h k = h
  choose_all false p q h k = k

  pub behind_all : (test : Token → Bool) (p : Rule S A) → All P p → All P (behind test p)
  behind_all test p h s t used a m = h s t m.back a m.read

module _ {S A B : Type 0} (P : A → Type 0) (Q : B → Type 0) where
  -- what follows has the first value's
  pub then_all : (p : Rule S A) (q : A → Rule S B) → All P p → ((a : A) → P a → All Q (q a)) → All Q (p >>= q)
  then_all p q h k s t used b m = k m.first (h s m.between m.front m.first m.in_front) m.between t m.back b m.in_back

  pub checked_all : (p : Rule S A) (f : A → Result B Flaw) → All P p → ((a : A) (b : B) → P a → f a ≡ Ok b → Q b) → All Q (checked p f)
  checked_all p f h k s t used b m = k m.value b (h s t used m.value m.read) m.passes

-- a first value of which nothing is said
pub skip_all : {S A B : Type 0} (Q : B → Type 0) (p : Rule S A) (q : A → Rule S B) → ((a : A) → All Q (q a)) → All Q (p >>= q)
skip_all Q p q k s t used b m = k m.first m.between t m.back b m.in_back

-- ---- lists

abbrev pub Each : {A : Type 0} → (A → Type 0) → List A → Type 0
Each P [] = Unit {0}
Each P (a ∷ others) = P a × Each P others

abbrev pub Maybe : {A : Type 0} → (A → Type 0) → Option A → Type 0
Maybe P None = Unit {0}
Maybe P (Some a) = P a

module _ {S A : Type 0} (P : A → Type 0) where
  pub repeat_all : (step : Rule S (Option A)) → All (Maybe P) step → All (Each P) (repeat step)
  repeat_all step h s t used [] m = tt
  repeat_all step h s t used (a ∷ others) m = (h s m.between m.front (Some a) m.item, repeat_all step h m.between t m.back others m.others)

  pub some_all : (p : Rule S A) → All P p → All (Maybe P) (p >>= λ a. done (Some a))
  some_all p h = then_all P (Maybe P) p (λ a. done (Some a)) h (λ a k. done_all (Maybe P) (Some a) k)

  pub more_item_all : (text close : List ℕ) (item : Rule S A) → All P item → All (Maybe P) (more_item text close item)
  unfolding more_item
  more_item_all text close item h = skip_all (Maybe P) (plain (closes_list text close)) (λ closes. choose closes (done None) (item >>= λ a. done (Some a)))
      (λ closes. choose_all (Maybe P) closes (done None) (item >>= λ a. done (Some a)) (done_all (Maybe P) None tt) (some_all item h))

  pub items_all : (text close : List ℕ) (item : Rule S A) → All P item → All (Each P) (items text close item)
  unfolding items no_items some_items
  items_all text close item h = if_next_all (Each P) (is_sign text close) (no_items text close) (some_items text close item) nothing some
    where
      nothing : All {S = S} (Each P) (no_items text close)
      nothing = skip_all (Each P) (a_sign text close) (λ _. done []) (λ _. done_all (Each P) [] tt)

      some : All {S = S} (Each P) (some_items text close item)
      some = then_all P (Each P) item (λ first. repeat (more_item text close item) >>= λ others. done (first ∷ others)) h
          (λ a k. then_all (Each P) (Each P) (repeat (more_item text close item)) (λ others. done (a ∷ others)) (repeat_all (more_item text close item) (more_item_all text close item h)) (λ others l. done_all (Each P) (a ∷ others) (k, l)))

pub each_true : {A : Type 0} (f : A → Bool) (xs : List A) → Each (λ x. f x ≡ true) xs → list_all f xs ≡ true
each_true f [] k = refl
each_true f (x ∷ xs) k = rw (k.0, each_true f xs k.1) refl

-- ---- rules over the names of a function

pub record Grows (s t : Locals) : Type 0 where
  pub registers : length s.registers ≤ length t.registers
  pub labels : length s.labels ≤ length t.labels

-- a function with so many registers and labels has at least those that have appeared
pub record Holds (t : Locals) (r l : ℕ) : Type 0 where
  pub registers : length t.registers ≤ r
  pub labels : length t.labels ≤ l

same : (n : ℕ) → n ≤ n
same n = omega arith

through : (a b c : ℕ) → a ≤ b → b ≤ c → a ≤ c
through a b c h k = omega arith

pub stays : (s : Locals) → Grows s s
stays s = record { registers = same (length s.registers); labels = same (length s.labels) }

pub stays_as : (s t : Locals) → t ≡ s → Grows s t
stays_as s t e = subst (λ (x : Locals). Grows s x) (sym e) (stays s)

pub goes_on : (s t u : Locals) → Grows s t → Grows t u → Grows s u
goes_on s t u h k = record {
  registers = through (length s.registers) (length t.registers) (length u.registers) h.registers k.registers;
  labels = through (length s.labels) (length t.labels) (length u.labels) h.labels k.labels;
}

pub held : (s t : Locals) (r l : ℕ) → Grows s t → Holds t r l → Holds s r l
held s t r l h k = record {
  registers = through (length s.registers) (length t.registers) r h.registers k.registers;
  labels = through (length s.labels) (length t.labels) l h.labels k.labels;
}

abbrev pub Says : {A : Type 0} → (ℕ → ℕ → A → Type 0) → Rule Locals A → Type 0
Says {A = A} P p = (s t : Locals) (used : List Token) (a : A) → p.means s used a t → Grows s t × ((r l : ℕ) → Holds t r l → P r l a)

-- nothing is said
abbrev pub anything : {A : Type 0} → ℕ → ℕ → A → Type 0
anything r l a = Unit {0}

module _ {A : Type 0} (P : ℕ → ℕ → A → Type 0) where
  pub done_says : (a : A) → ((r l : ℕ) → P r l a) → Says P (done a)
  done_says a h s t used b m = (stays_as s t m.2, λ r l k. subst (P r l) (sym m.1) (h r l))

  pub if_next_says : (test : Token → Bool) (p q : Rule Locals A) → Says P p → Says P q → Says P (if_next test p q)
  if_next_says test p q h k s t used a (inl m) = h s t used a m.1
  if_next_says test p q h k s t used a (inr m) = k s t used a m.1

  pub choose_says : (b : Bool) (p q : Rule Locals A) → Says P p → Says P q → Says P (choose b p q)
  choose_says true p q h k = h
  choose_says false p q h k = k

  pub behind_says : (test : Token → Bool) (p : Rule Locals A) → Says P p → Says P (behind test p)
  behind_says test p h s t used a m = h s t m.back a m.read

-- a rule without names, among these
pub lift_says : {A : Type 0} (P : A → Type 0) (p : Rule (Unit {0}) A) → All P p → Says (λ r l. P) (lift p)
lift_says P p h s t used a m = (stays_as s t m.1, λ r l k. h tt tt used a m.0)

pub lift_any : {A : Type 0} (p : Rule (Unit {0}) A) → Says anything (lift p)
lift_any p s t used a m = (stays_as s t m.1, λ r l k. tt)

module _ {A B : Type 0} (P : ℕ → ℕ → A → Type 0) (Q : ℕ → ℕ → B → Type 0) where
  pub then_says : (p : Rule Locals A) (q : A → Rule Locals B) → Says P p → ((a : A) → Says (λ r l b. P r l a → Q r l b) (q a)) → Says Q (p >>= q)
  then_says p q h k s t used b m =
      let x = h s m.between m.front m.first m.in_front in
      let y = k m.first m.between t m.back b m.in_back in
      (goes_on s m.between t x.0 y.0, λ r l z. y.1 r l z (x.1 r l (held m.between t r l y.0 z)))

  pub ahead_says : (g : A → Token → Bool) (p : Rule Locals A) (q : A → Rule Locals B) → Says P p → ((a : A) → Says (λ r l b. P r l a → Q r l b) (q a)) → Says Q (ahead g p q)
  ahead_says g p q h k s t used b m =
      let x = h s m.between m.front m.first m.in_front in
      let y = k m.first m.between t m.back b m.in_back in
      (goes_on s m.between t x.0 y.0, λ r l z. y.1 r l z (x.1 r l (held m.between t r l y.0 z)))

-- a first rule without names, of whose value nothing is said
pub skip_says : {A B : Type 0} (Q : ℕ → ℕ → B → Type 0) (p : Rule (Unit {0}) A) (q : A → Rule Locals B) → ((a : A) → Says Q (q a)) → Says Q (lift p >>= q)
skip_says Q p q k s t used b m =
    let x = lift_any p s m.between m.front m.first m.in_front in
    let y = k m.first m.between t m.back b m.in_back in
    (goes_on s m.between t x.0 y.0, y.1)

-- ---- lists of such

module _ {A : Type 0} (P : ℕ → ℕ → A → Type 0) where
  pub repeat_says : (step : Rule Locals (Option A)) → Says (λ r l. Maybe (P r l)) step → Says (λ r l. Each (P r l)) (repeat step)
  repeat_says step h s t used [] m = ((h s t used None m).0, λ r l z. tt)
  repeat_says step h s t used (a ∷ others) m =
      let x = h s m.between m.front (Some a) m.item in
      let y = repeat_says step h m.between t m.back others m.others in
      (goes_on s m.between t x.0 y.0, λ r l z. (x.1 r l (held m.between t r l y.0 z), y.1 r l z))

  pub some_says : (p : Rule Locals A) → Says P p → Says (λ r l. Maybe (P r l)) (p >>= λ a. done (Some a))
  some_says p h = then_says P (λ r l. Maybe (P r l)) p (λ a. done (Some a)) h (λ a. done_says (λ r l b. P r l a → Maybe (P r l) b) (Some a) (λ r l k. k))

-- a first token of which nothing is said
pub skip_plain : {A B : Type 0} (Q : ℕ → ℕ → B → Type 0) (f : Token → Result A Flaw) (q : A → Rule Locals B) → ((a : A) → Says Q (q a)) → Says Q (plain f >>= q)
skip_plain Q f q k s t used b m =
    let x = stays_as s m.between (kept_state s m.between m.first (f m.in_front.token) m.in_front.value) in
    let y = k m.first m.between t m.back b m.in_back in
    (goes_on s m.between t x y.0, y.1)

module _ {A : Type 0} (P : ℕ → ℕ → A → Type 0) (text close : List ℕ) (item : Rule Locals A) (h : Says P item) where
  more_item_says : Says (λ r l. Maybe (P r l)) (more_item text close item)
  unfolding more_item
  more_item_says = skip_plain (λ r l. Maybe (P r l)) (closes_list text close) (λ closes. choose closes (done None) (item >>= λ a. done (Some a)))
      (λ closes. choose_says (λ r l. Maybe (P r l)) closes (done None) (item >>= λ a. done (Some a)) (done_says (λ r l. Maybe (P r l)) None (λ r l. tt)) (some_says P item h))

  no_items_say : Says (λ r l. Each (P r l)) (no_items text close)
  unfolding no_items
  no_items_say = skip_plain (λ r l. Each (P r l)) (λ token. only_where (is_sign text close token)) (λ _. done []) (λ _. done_says (λ r l. Each (P r l)) [] (λ r l. tt))

  some_items_say : Says (λ r l. Each (P r l)) (some_items text close item)
  unfolding some_items
  some_items_say = then_says P (λ r l. Each (P r l)) item (λ first. repeat (more_item text close item) >>= λ others. done (first ∷ others)) h
      (λ a. then_says (λ r l. Each (P r l)) (λ r l all. P r l a → Each (P r l) all) (repeat (more_item text close item)) (λ others. done (a ∷ others)) (repeat_says P (more_item text close item) more_item_says)
      (λ others. done_says (λ r l all. Each (P r l) others → P r l a → Each (P r l) all) (a ∷ others) (λ r l k e. (e, k))))

  pub items_say : Says (λ r l. Each (P r l)) (items text close item)
  unfolding items
  items_say = if_next_says (λ r l. Each (P r l)) (is_sign text close) (no_items text close) (some_items text close item) no_items_say some_items_say

-- ---- rules that go on step by step

module _ {S A : Type 0} (P : A → Type 0) (test : Token → Bool) (step : A → Rule S A) (h : (x : A) → P x → All P (step x)) where
  steps_all : (n : ℕ) (x : A) → P x → (s t : S) (used : List Token) (y : A) → AreSteps test step n s used x y t → P y
  steps_all zero x p s t used y k = subst P (sym k.1) p
  steps_all (suc n) x p s t used y k = steps_all n k.value (h x p s k.between k.front k.value k.first) k.between t k.back y k.others

  pub folded_all : (x : A) → P x → All P (folded test step x)
  folded_all x p s t used y k = steps_all k.0 x p s t used y k.1

module _ {A : Type 0} (P : ℕ → ℕ → A → Type 0) (test : Token → Bool) (step : A → Rule Locals A) (h : (x : A) → Says (λ r l y. P r l x → P r l y) (step x)) where
  steps_say : (n : ℕ) (x : A) (s t : Locals) (used : List Token) (y : A) → AreSteps test step n s used x y t → Grows s t × ((r l : ℕ) → Holds t r l → P r l x → P r l y)
  steps_say zero x s t used y k = (stays_as s t k.2, λ r l z p. subst (P r l) (sym k.1) p)
  steps_say (suc n) x s t used y k =
      let u = h x s k.between k.front k.value k.first in
      let v = steps_say n k.value k.between t k.back y k.others in
      (goes_on s k.between t u.0 v.0, λ r l z p. v.1 r l z (u.1 r l (held k.between t r l v.0 z) p))

  pub folded_says : (x : A) → Says (λ r l y. P r l x → P r l y) (folded test step x)
  folded_says x s t used y k = steps_say k.0 x s t used y k.1

pub each_push : {A : Type 0} (P : A → Type 0) (xs : List A) (x : A) → Each P xs → P x → Each P (xs ++ x ∷ [])
each_push P [] x k p = (p, tt)
each_push P (y ∷ ys) x k p = (k.0, each_push P ys x k.1 p)
