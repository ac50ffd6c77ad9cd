-- What the code finds at the front of some bytes is the longest token there.
use Rattle.std.proofs.Common.{◌≡◌, ℕ, suc, zero, ◌<◌, ◌≤◌, ◌+◌, Bool, true, false, cond, ◌&&◌, ◌||◌, List, [], ◌∷◌, ◌==◌, length, take, bytes_eq, Option, Some, None, unwrap_or, if◌then◌else◌, refl, sym, ap, subst, ◌∙◌, arith, true≢false}
use Rattle.std.specs.Option.{option_map}
use Rattle.std.proofs.lemmas.Bool.{eqb-true}
use Rattle.std.proofs.Math.Dec.{eqb-suc-zero}
use Rattle.std.specs.List.{list_all, prefix_len}
use Rattle.no_lex.specs.declared.spelling.First.{First}
use Rattle.no_lex.specs.declared.spelling.First.TheVariants.{Name, Sigil, GroupMark, MetaMark, Quote, OneSign, Nothing}
use Rattle.no_lex.specs.declared.token.TokenKind.{TokenKind}
use Rattle.no_lex.specs.declared.token.TokenKind.TheVariants.{Group, Meta, Quoted, Sign}
use Rattle.no_lex.specs.Spelling.{is_name_byte, closes, is_name, is_string, name_kind, only_if, first_of, kind_behind, kind_of}
use Rattle.no_lex.specs.Tokens.{IsLongest, NoToken}
use Rattle.no_lex.specs.Found.{quote_len, string_len, name_or_string, some_name, sized, found_behind, found, IsFound}

-- ---- tests of fronts

pub record Longest (test : List ℕ → Bool) (bytes : List ℕ) (n : ℕ) : Type 0 where
  pub within : n ≤ length bytes
  pub passes : test (take n bytes) ≡ true
  pub longest : (m : ℕ) → n < m → m ≤ length bytes → test (take m bytes) ≡ false

abbrev Never : (List ℕ → Bool) → List ℕ → Type 0
Never test bytes = (m : ℕ) → m ≤ length bytes → test (take m bytes) ≡ false

-- the longest front, or that none passes
abbrev Is : (List ℕ → Bool) → List ℕ → Option ℕ → Type 0
Is test bytes (Some n) = Longest test bytes n
Is test bytes None = Never test bytes

-- one byte before
longest_behind : (test : List ℕ → Bool) (b : ℕ) (bytes : List ℕ) (n : ℕ) → Longest (λ ys. test (b ∷ ys)) bytes n → Longest test (b ∷ bytes) (n + 1)
longest_behind test b bytes n l = subst (Longest test (b ∷ bytes)) (let e : suc n ≡ n + 1 = omega arith in e) (record { within = omega (arith, l.within); passes = l.passes; longest = more })
  where
    more : (m : ℕ) → suc n < m → m ≤ length (b ∷ bytes) → test (take m (b ∷ bytes)) ≡ false
    more zero h k = absurd (omega arith)
    more (suc m) h k = l.longest m (omega arith) (omega arith)

never_behind : (test : List ℕ → Bool) (b : ℕ) (bytes : List ℕ) → test [] ≡ false → Never (λ ys. test (b ∷ ys)) bytes → Never test (b ∷ bytes)
never_behind test b bytes e l zero k = e
never_behind test b bytes e l (suc m) k = l m (omega arith)

never_empty : (test : List ℕ → Bool) → test [] ≡ false → Never test []
never_empty test e zero k = e
never_empty test e (suc m) k = absurd (omega arith)

-- ---- names

all_longest : (p : ℕ → Bool) (bytes : List ℕ) → Longest (list_all p) bytes (prefix_len p bytes)
all_longest p [] = record { within = omega arith; passes = refl; longest = λ m h k. absurd (omega arith) }
all_longest p (b ∷ bytes) = by (p b) refl (all_longest p bytes)
  where
    none : (m : ℕ) → p b ≡ false → 0 < m → m ≤ length (b ∷ bytes) → list_all p (take m (b ∷ bytes)) ≡ false
    none zero e h k = absurd (omega arith)
    none (suc m) e h k = rw e refl

    by : (t : Bool) → p b ≡ t → Longest (list_all p) bytes (prefix_len p bytes) → Longest (list_all p) (b ∷ bytes) (cond (p b) (1 + prefix_len p bytes) 0)
    by true e l =
        let within : Longest (λ ys. p b && list_all p ys) bytes (prefix_len p bytes) = subst (λ t. Longest (λ ys. t && list_all p ys) bytes (prefix_len p bytes)) (sym e) l in
        let swap : prefix_len p bytes + 1 ≡ 1 + prefix_len p bytes = omega arith in
        rw e (subst (Longest (list_all p) (b ∷ bytes)) swap (longest_behind (list_all p) b bytes (prefix_len p bytes) within))
    by false e l = rw e (record { within = omega arith; passes = refl; longest = λ m h k. none m e h k })

abbrev name : List ℕ → Bool
name = list_all is_name_byte

-- at least one byte is a name as soon as all are name characters
name_is : (m : ℕ) (bytes : List ℕ) → 0 < m → m ≤ length bytes → is_name (take m bytes) ≡ name (take m bytes)
name_is zero bytes h k = absurd (omega arith)
name_is (suc m) [] h k = absurd (omega arith)
name_is (suc m) (b ∷ bytes) h k = refl

some_name_is : (bytes : List ℕ) → Is is_name bytes (some_name bytes)
some_name_is bytes = by (prefix_len is_name_byte bytes) refl (all_longest is_name_byte bytes)
  where
    never : Longest name bytes 0 → Never is_name bytes
    never l zero k = refl
    never l (suc m) k = name_is (suc m) bytes (omega arith) k ∙ l.longest (suc m) (omega arith) k

    by : (n : ℕ) → prefix_len is_name_byte bytes ≡ n → Longest name bytes (prefix_len is_name_byte bytes) → Is is_name bytes (if prefix_len is_name_byte bytes == 0 then None else Some (prefix_len is_name_byte bytes))
    by zero e l = rw e (never (rw e at l))
    by (suc n) e l = rw (e, eqb-suc-zero n) (let m : Longest name bytes (suc n) = rw e at l in record { within = m.within; passes = name_is (suc n) bytes (omega arith) m.within ∙ m.passes; longest = λ k h w. name_is k bytes (omega arith) w ∙ m.longest k h w })

-- ---- strings

quote_is : (bytes : List ℕ) → Is closes bytes (quote_len bytes)
quote_is [] = never_empty closes refl
quote_is (b ∷ bytes) = by (b == 34) refl (quote_len bytes) (quote_is bytes)
  where
    alone : (m : ℕ) (ys : List ℕ) → (b == 34) ≡ true → 1 < m → m ≤ length (b ∷ ys) → closes (take m (b ∷ ys)) ≡ false
    alone zero ys e h k = absurd (omega arith)
    alone (suc zero) ys e h k = absurd (omega arith)
    alone (suc (suc m)) [] e h k = absurd (omega arith)
    alone (suc (suc m)) (y ∷ ys) e h k = rw e refl

    by : (t : Bool) → (b == 34) ≡ t → (r : Option ℕ) → Is closes bytes r → Is closes (b ∷ bytes) (if b == 34 then Some 1 else option_map (λ n. n + 1) r)
    by true e r l = rw e (record { within = omega arith; passes = rw e refl; longest = λ m h k. alone m bytes e h k })
    by false e (Some n) l = rw e (longest_behind closes b bytes n (subst (λ t. Longest (λ ys. if t then bytes_eq ys [] else closes ys) bytes n) (sym e) l))
    by false e None l = rw e (never_behind closes b bytes refl (λ m k. rw e (l m k)))

string_is : (bytes : List ℕ) → Is is_string bytes (string_len bytes)
string_is [] = never_empty is_string refl
string_is (b ∷ bytes) = by (b == 34) refl (quote_len bytes) (quote_is bytes)
  where
    by : (t : Bool) → (b == 34) ≡ t → (r : Option ℕ) → Is closes bytes r → Is is_string (b ∷ bytes) (if b == 34 then option_map (λ n. n + 1) r else None)
    by true e (Some n) l = rw e (longest_behind is_string b bytes n (subst (λ t. Longest (λ ys. t && closes ys) bytes n) (sym e) l))
    by true e None l = rw e (never_behind is_string b bytes refl (λ m k. rw e (l m k)))
    by false e r l = rw e (never_behind is_string b bytes refl (λ m k. rw e refl))

-- a name character is no quote, so that no name is a string
no_quote : (b : ℕ) (t : Bool) → is_name_byte b ≡ true → (b == 34) ≡ t → (b == 34) ≡ false
no_quote b false n e = e
no_quote b true n e = let is : b ≡ 34 = eqb-true b 34 e in absurd (true≢false (sym n ∙ ap is_name_byte is))

no_string : (bytes : List ℕ) → 0 < prefix_len is_name_byte bytes → Never is_string bytes
no_string [] h = absurd (omega arith)
no_string (b ∷ bytes) h = by (is_name_byte b) refl
  where
    by : (t : Bool) → is_name_byte b ≡ t → Never is_string (b ∷ bytes)
    by true e = never_behind is_string b bytes refl (λ m k. rw (no_quote b (b == 34) e refl) refl)
    by false e = let k : 0 < cond (is_name_byte b) (1 + prefix_len is_name_byte bytes) 0 = h in let l : 0 < 0 = rw e at k in absurd (omega arith)

-- ---- either

abbrev either : List ℕ → Bool
either ys = is_name ys || is_string ys

or_left : (a b : Bool) → a ≡ true → (a || b) ≡ true
or_left a b e = rw e refl

or_none : (a b : Bool) → a ≡ false → b ≡ false → (a || b) ≡ false
or_none a b e f = rw (e, f) refl

or_right : (a b : Bool) → b ≡ true → (a || b) ≡ true
or_right true b e = refl
or_right false b e = e

either_is : (bytes : List ℕ) → Is either bytes (name_or_string bytes)
either_is bytes = by (prefix_len is_name_byte bytes) refl (some_name_is bytes) (string_len bytes) (string_is bytes) (no_string bytes)
  where
    by : (n : ℕ) → prefix_len is_name_byte bytes ≡ n → Is is_name bytes (if prefix_len is_name_byte bytes == 0 then None else Some (prefix_len is_name_byte bytes))
        → (r : Option ℕ) → Is is_string bytes r → (0 < prefix_len is_name_byte bytes → Never is_string bytes)
        → Is either bytes (if prefix_len is_name_byte bytes == 0 then r else Some (prefix_len is_name_byte bytes))
    by zero e names (Some n) l out = rw e (let none : Never is_name bytes = rw e at names in record { within = l.within; passes = or_right (is_name (take n bytes)) _ l.passes; longest = λ m h k. or_none _ _ (none m k) (l.longest m h k) })
    by zero e names None l out = rw e (let none : Never is_name bytes = rw e at names in λ m k. or_none _ _ (none m k) (l m k))
    by (suc n) e names r l out = rw (e, eqb-suc-zero n) (let some : Longest is_name bytes (suc n) = rw (e, eqb-suc-zero n) at names in let never : Never is_string bytes = out (omega arith) in record { within = some.within; passes = or_left _ _ some.passes; longest = λ m h k. or_none _ _ (some.longest m h k) (never m k) })

-- where nothing at all is a name too
meta_is : (bytes : List ℕ) → Longest (λ ys. name ys || is_string ys) bytes (unwrap_or (name_or_string bytes) 0)
meta_is bytes = by (name_or_string bytes) (either_is bytes)
  where
    same : (m : ℕ) → 0 < m → m ≤ length bytes → either (take m bytes) ≡ false → (name (take m bytes) || is_string (take m bytes)) ≡ false
    same m h k e = subst (λ t. (t || is_string (take m bytes)) ≡ false) (name_is m bytes h k) e

    passes : (n : ℕ) → n ≤ length bytes → either (take n bytes) ≡ true → (name (take n bytes) || is_string (take n bytes)) ≡ true
    passes zero k e = refl
    passes (suc n) k e = subst (λ t. (t || is_string (take (suc n) bytes)) ≡ true) (name_is (suc n) bytes (omega arith) k) e

    by : (r : Option ℕ) → Is either bytes r → Longest (λ ys. name ys || is_string ys) bytes (unwrap_or r 0)
    by (Some n) l = record { within = l.within; passes = passes n l.within l.passes; longest = λ m h k. same m (omega arith) k (l.longest m h k) }
    by None l = record { within = omega arith; passes = refl; longest = λ m h k. same m h k (l m k) }

-- ---- tokens

-- one byte and what a test says of those behind it
module _ (b : ℕ) (bytes : List ℕ) (test : List ℕ → Bool) (kind : List ℕ → TokenKind) (spells : (ys : List ℕ) → kind_of (b ∷ ys) ≡ only_if (test ys) (kind ys)) where
  arm_some : (n : ℕ) → Longest test bytes n → (0 < n + 1) × IsLongest (b ∷ bytes) (kind (take n bytes)) (n + 1)
  arm_some n l = (
    omega arith,
    subst (IsLongest (b ∷ bytes) (kind (take n bytes))) (let e : suc n ≡ n + 1 = omega arith in e)
        (record { within = omega (arith, l.within); spells = spells (take n bytes) ∙ ap (λ t. only_if t (kind (take n bytes))) l.passes; longest = more }),
  )
    where
      more : (m : ℕ) → suc n < m → m ≤ length (b ∷ bytes) → kind_of (take m (b ∷ bytes)) ≡ None
      more zero h k = absurd (omega arith)
      more (suc m) h k = spells (take m bytes) ∙ ap (λ t. only_if t (kind (take m bytes))) (l.longest m (omega arith) (omega arith))

  arm_none : Never test bytes → NoToken (b ∷ bytes)
  arm_none l zero k = refl
  arm_none l (suc m) k = spells (take m bytes) ∙ ap (λ t. only_if t (kind (take m bytes))) (l m (omega arith))

  arm : (fixed : TokenKind) → ((ys : List ℕ) → kind ys ≡ fixed) → (r : Option ℕ) → Is test bytes r → IsFound (b ∷ bytes) (sized fixed r)
  arm fixed same (Some n) l = let a = arm_some n l in (a.0, subst (λ k. IsLongest (b ∷ bytes) k (n + 1)) (same (take n bytes)) a.1)
  arm fixed same None l = arm_none l

empty_longest : (bytes : List ℕ) → Longest (λ ys. bytes_eq ys []) bytes 0
empty_longest bytes = record { within = omega arith; passes = refl; longest = more bytes }
  where
    more : (bs : List ℕ) (m : ℕ) → 0 < m → m ≤ length bs → bytes_eq (take m bs) [] ≡ false
    more bs zero h k = absurd (omega arith)
    more [] (suc m) h k = absurd (omega arith)
    more (c ∷ bs) (suc m) h k = refl

no_token_empty : NoToken []
no_token_empty zero k = refl
no_token_empty (suc m) k = absurd (omega arith)

pub found_is : (bytes : List ℕ) → IsFound bytes (found bytes)
found_is [] = no_token_empty
found_is (b ∷ bytes) = go (first_of b) refl
  where
    spells : (f : First) → first_of b ≡ f → (ys : List ℕ) → kind_of (b ∷ ys) ≡ kind_behind f b ys
    spells f e ys = ap (λ g. kind_behind g b ys) e

    word : (n : ℕ) → (b ∷ take n bytes) ≡ take (n + 1) (b ∷ bytes)
    word n = let e : suc n ≡ n + 1 = omega arith in ap (λ m. take m (b ∷ bytes)) e

    go : (f : First) → first_of b ≡ f → IsFound (b ∷ bytes) (found_behind f b bytes)
    go Name e = let n = prefix_len is_name_byte bytes in let a = arm_some b bytes name (λ ys. name_kind (b ∷ ys)) (spells Name e) n (all_longest is_name_byte bytes) in
        (a.0, subst (λ w. IsLongest (b ∷ bytes) (name_kind w) (n + 1)) (word n) a.1)
    go (Sigil kind) e = arm b bytes either (λ ys. kind) (spells (Sigil kind) e) kind (λ ys. refl) (name_or_string bytes) (either_is bytes)
    go GroupMark e = arm b bytes is_name (λ ys. Group) (spells GroupMark e) Group (λ ys. refl) (some_name bytes) (some_name_is bytes)
    go MetaMark e = arm b bytes (λ ys. name ys || is_string ys) (λ ys. Meta) (spells MetaMark e) Meta (λ ys. refl) (Some (unwrap_or (name_or_string bytes) 0)) (meta_is bytes)
    go Quote e = arm b bytes closes (λ ys. Quoted) (spells Quote e) Quoted (λ ys. refl) (quote_len bytes) (quote_is bytes)
    go OneSign e = arm b bytes (λ ys. bytes_eq ys []) (λ ys. Sign) (spells OneSign e) Sign (λ ys. refl) (Some 0) (empty_longest bytes)
    go Nothing e = arm_none b bytes (λ ys. false) (λ ys. Sign) (spells Nothing e) (λ m k. refl)
