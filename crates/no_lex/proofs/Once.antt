-- A text has one answer: its tokens, or one fault.
use Rattle.std.proofs.Common.{◌≡◌, ℕ, ◌<◌, ◌≤◌, List, [], ◌∷◌, length, take, drop, Option, Some, None, Result, Ok, Err, inl, inr, refl, sym, ap, subst, ◌∙◌, arith}
use Rattle.std.proofs.lemmas.Bool.{cases_lt}
use Rattle.std.proofs.lemmas.List.{length-drop}
use Rattle.no_lex.specs.declared.token.Token.{Token}
use Rattle.no_lex.specs.declared.token.TokenKind.{TokenKind}
use Rattle.no_lex.specs.declared.fault.LexFault.{LexFault}
use Rattle.no_lex.specs.declared.fault.LexError.{LexError}
use Rattle.no_lex.specs.declared.fault.LexError.TheVariants.{NoMemory, Fault}
use Rattle.no_lex.specs.Spelling.{kind_of}
use Rattle.no_lex.specs.Tokens.{next_place, IsLongest, NoToken, settled, IsNext, Follow, Parts, fault_at, IsStuck, Lexes, Answers}

none_some : {A : Type 0} (x : Option A) (a : A) → x ≡ None → x ≡ Some a → ⊥
none_some x a n s = cc

same_size : (bytes : List ℕ) (k l : TokenKind) (m n : ℕ) → IsLongest bytes k m → IsLongest bytes l n → m ≡ n
same_size bytes k l m n a b = elim (cases_lt m n) [
  | inl lt ↦ absurd (none_some _ l (a.longest n lt b.within) b.spells)
  | inr ge ↦ elim (cases_lt n m) [
    | inl gt ↦ absurd (none_some _ k (b.longest m gt a.within) a.spells)
    | inr le ↦ omega arith
  ]
]

from_some : {A : Type 0} (x y : A) → Some x ≡ Some y → x ≡ y
from_some x y e = cc

next_once : (text : List ℕ) (at : ℕ) (t u : Token) → IsNext text at t → IsNext text at u → t ≡ u
next_once text at t u a b =
    let bytes = drop (next_place text at) text in
    let s : a.size ≡ b.size = same_size bytes a.kind b.kind a.size b.size a.longest b.longest in
    let k : a.kind ≡ b.kind = from_some a.kind b.kind (sym a.longest.spells ∙ ap (λ n. kind_of (take n bytes)) s ∙ b.longest.spells) in
    a.settles ∙ (λ i. settled (next_place text at) (k i) (s i) bytes) ∙ sym b.settles

abbrev Stops : List ℕ → ℕ → Type 0
Stops text at = (t : Token) → IsNext text at t → ⊥

done_stops : (text : List ℕ) (at : ℕ) → length text ≤ next_place text at → Stops text at
done_stops text at d t n = absurd (let w : n.size ≤ length (drop (next_place text at) text) = n.longest.within in omega (arith, n.some, length-drop (next_place text at) text))

stuck_stops : (text : List ℕ) (at : ℕ) → NoToken (drop (next_place text at) text) → Stops text at
stuck_stops text at none t n = none_some _ n.kind (none n.size n.longest.within) n.longest.spells

follow_once : (text : List ℕ) (at m n : ℕ) (ts us : List Token) → Follow text at ts m → Follow text at us n → Stops text m → Stops text n → (ts ≡ us) × (m ≡ n)
follow_once text at m n [] [] f g s r = (refl, sym f ∙ g)
follow_once text at m n [] (u ∷ us) f g s r = absurd (s u (subst (λ (k : ℕ). IsNext text k u) f g.0))
follow_once text at m n (t ∷ ts) [] f g s r = absurd (r t (subst (λ (k : ℕ). IsNext text k t) g f.0))
follow_once text at m n (t ∷ ts) (u ∷ us) f g s r =
    let same = next_once text at t u f.0 g.0 in
    let more = follow_once text t.end m n ts us f.1 (subst (λ (v : Token). Follow text v.end us n) (sym same) g.1) s r in
    ((λ i. same i ∷ more.0 i), more.1)

-- the tokens of a whole text leave no fault
parts_or_stuck : (text : List ℕ) (tokens : List Token) (fault : LexFault) → Parts text tokens → IsStuck text fault → ⊥
parts_or_stuck text tokens fault p s =
    let e = follow_once text 0 p.0 s.end tokens s.tokens p.1 s.follow (done_stops text p.0 p.2) (stuck_stops text s.end s.none) in
    let l : next_place text p.0 < length text = subst (λ n. next_place text n < length text) (sym e.1) s.left in omega (arith, p.2)

stuck_once : (text : List ℕ) (f g : LexFault) → IsStuck text f → IsStuck text g → f ≡ g
stuck_once text f g s r =
    let e = follow_once text 0 s.end r.end s.tokens r.tokens s.follow r.follow (stuck_stops text s.end s.none) (stuck_stops text r.end r.none) in
    s.is ∙ ap (λ n. fault_at (next_place text n) (drop (next_place text n) text)) e.1 ∙ sym r.is

-- at most one list of tokens or fault is read from a text
pub lexes_once : (limit : ℕ) (text : List ℕ) (a b : Result (List Token) LexFault) → Lexes limit text a → Lexes limit text b → a ≡ b
lexes_once limit text (Ok ts) (Ok us) a b =
    ap Ok (follow_once text 0 a.1.0 b.1.0 ts us a.1.1 b.1.1 (done_stops text a.1.0 a.1.2) (done_stops text b.1.0 b.1.2)).0
lexes_once limit text (Ok ts) (Err g) a (inl b) = absurd (omega (arith, a.0, b.0))
lexes_once limit text (Ok ts) (Err g) a (inr b) = absurd (parts_or_stuck text ts g a.1 b.1)
lexes_once limit text (Err f) (Ok us) (inl a) b = absurd (omega (arith, a.0, b.0))
lexes_once limit text (Err f) (Ok us) (inr a) b = absurd (parts_or_stuck text us f b.1 a.1)
lexes_once limit text (Err f) (Err g) (inl a) (inl b) = ap Err (a.1 ∙ sym b.1)
lexes_once limit text (Err f) (Err g) (inl a) (inr b) = absurd (omega (arith, a.0, b.0))
lexes_once limit text (Err f) (Err g) (inr a) (inl b) = absurd (omega (arith, a.0, b.0))
lexes_once limit text (Err f) (Err g) (inr a) (inr b) = ap Err (stuck_once text f g a.1 b.1)

pub only_answer : (limit : ℕ) (text : List ℕ) (r : Result (List Token) LexError) → Answers r (Lexes limit text) → (answer : Result (List Token) LexFault) → Lexes limit text answer → Answers r (λ found. found ≡ answer)
only_answer limit text (Ok ts) l answer k = lexes_once limit text (Ok ts) answer l k
only_answer limit text (Err (Fault f)) l answer k = lexes_once limit text (Err f) answer l k
only_answer limit text (Err NoMemory) l answer k = tt
