-- One look for the next token, and the tokens before it.
use Rattle.std.proofs.Common.{◌≡◌, ℕ, ◌<◌, ◌≤◌, ◌+◌, ◌-◌, Bool, true, false, ◌&&◌, List, [], ◌∷◌, ◌++◌, length, take, drop, bytes_eq, codes, if◌then◌else◌, refl, sym, ap, subst, ◌∙◌, arith, true≢false}
use Rattle.std.proofs.lemmas.List.{length-drop, drop-drop}
use Rattle.no_lex.specs.declared.token.Token.{Token}
use Rattle.no_lex.specs.declared.token.TokenKind.{TokenKind}
use Rattle.no_lex.specs.declared.token.TokenKind.TheVariants.{CMark, Label}
use Rattle.no_lex.specs.declared.fault.LexFault.{LexFault}
use Rattle.no_lex.specs.Tokens.{skipped, next_place, IsLongest, NoToken, begins_with, may_label, settled, IsNext, Follow, fault_at, IsSpan, AreSpans}

-- the bytes behind blanks and comments stand at the next place
at_place : (text rest bytes : List ℕ) (at blank : ℕ) → rest ≡ drop at text → bytes ≡ drop blank rest → blank ≡ skipped false rest → bytes ≡ drop (next_place text at) text
at_place text rest bytes at blank r b s =
    let e : blank ≡ skipped false (drop at text) = rw r at s in
    let d : drop blank (drop at text) ≡ drop (at + blank) text = drop-drop blank at text in
    b ∙ ap (drop blank) r ∙ d ∙ ap (λ n. drop (at + n) text) e

place_is : (text rest : List ℕ) (at blank : ℕ) → rest ≡ drop at text → blank ≡ skipped false rest → at + blank ≡ next_place text at
place_is text rest at blank r s = ap (λ n. at + n) (rw r at s)

pub look_some : (text rest bytes : List ℕ) (at blank size : ℕ) (kind : TokenKind) (token : Token) → rest ≡ drop at text → bytes ≡ drop blank rest → blank ≡ skipped false rest
    → (0 < size) × IsLongest bytes kind size → token ≡ settled (at + blank) kind size bytes → IsNext text at token
look_some text rest bytes at blank size kind token r b s l t =
    let e = at_place text rest bytes at blank r b s in
    record {
      kind = kind;
      size = size;
      some = l.0;
      longest = subst (λ ys. IsLongest ys kind size) e l.1;
      settles = t ∙ ap (λ n. settled n kind size bytes) (place_is text rest at blank r s) ∙ ap (settled (next_place text at) kind size) e;
    }

pub look_none : (text rest bytes : List ℕ) (at blank : ℕ) (fault : LexFault) → rest ≡ drop at text → bytes ≡ drop blank rest → blank ≡ skipped false rest → 0 < length bytes
    → NoToken bytes → fault ≡ fault_at (at + blank) bytes → (next_place text at < length text) × NoToken (drop (next_place text at) text) × (fault ≡ fault_at (next_place text at) (drop (next_place text at) text))
look_none text rest bytes at blank fault r b s some none t =
    let e = at_place text rest bytes at blank r b s in
    let l : 0 < length (drop (next_place text at) text) = subst (λ ys. 0 < length ys) e some in (
      let k : length (drop (next_place text at) text) ≡ length text - next_place text at = length-drop (next_place text at) text in omega arith,
      subst NoToken e none,
      t ∙ ap (λ n. fault_at n bytes) (place_is text rest at blank r s) ∙ ap (fault_at (next_place text at)) e,
    )

pub look_done : (text rest bytes : List ℕ) (at blank : ℕ) → rest ≡ drop at text → bytes ≡ drop blank rest → blank ≡ skipped false rest → length bytes ≡ 0 → length text ≤ next_place text at
look_done text rest bytes at blank r b s none =
    let e = at_place text rest bytes at blank r b s in
    let l : length (drop (next_place text at) text) ≡ 0 = subst (λ ys. length ys ≡ 0) e none in
    let k : length (drop (next_place text at) text) ≡ length text - next_place text at = length-drop (next_place text at) text in omega arith

-- ---- spans

begins_some : (b : ℕ) (bytes : List ℕ) → begins_with b bytes ≡ true → 0 < length bytes
begins_some b [] e = absurd (true≢false (sym e))
begins_some b (c ∷ bytes) e = omega arith

and_right : (a b : Bool) → (a && b) ≡ true → b ≡ true
and_right true b e = e
and_right false b e = absurd (true≢false (sym e))

settled_span : (start size : ℕ) (kind : TokenKind) (bytes : List ℕ) → 0 < size → size ≤ length bytes
    → ((settled start kind size bytes).start ≡ start) × (start + size ≤ (settled start kind size bytes).end) × ((settled start kind size bytes).end ≤ start + length bytes)
settled_span start size kind bytes some within = by (may_label kind && begins_with 58 (drop size bytes)) refl (bytes_eq (take size bytes) (codes "c") && begins_with 34 (drop size bytes))
  where
    by : (a : Bool) → (may_label kind && begins_with 58 (drop size bytes)) ≡ a → (b : Bool)
        → let t : Token = (if a then record { kind = Label; start = start; end = start + size + 1 } else (if b then record { kind = CMark; start = start; end = start + size } else record { kind = kind; start = start; end = start + size })) in
        (t.start ≡ start) × (start + size ≤ t.end) × (t.end ≤ start + length bytes)
    by true e b = (refl, omega arith, let l = begins_some 58 (drop size bytes) (and_right (may_label kind) _ e) in omega (arith, l, length-drop size bytes))
    by false e true = (refl, omega arith, omega arith)
    by false e false = (refl, omega arith, omega arith)

pub next_span : (text : List ℕ) (at : ℕ) (token : Token) → IsNext text at token → IsSpan at (length text) token
next_span text at token n =
    let s = settled_span (next_place text at) n.size n.kind (drop (next_place text at) text) n.some n.longest.within in
    let k : length (drop (next_place text at) text) ≡ length text - next_place text at = length-drop (next_place text at) text in
    let w : n.size ≤ length (drop (next_place text at) text) = n.longest.within in
    let t = settled (next_place text at) n.kind n.size (drop (next_place text at) text) in
    let r : IsSpan at (length text) t = record { begins = omega (arith, s.0); some = omega (arith, s.0, s.1, n.some); ends = omega (arith, s.2, n.some) } in
    subst (IsSpan at (length text)) (sym n.settles) r

pub follow_spans : (text : List ℕ) (at end : ℕ) (tokens : List Token) → Follow text at tokens end → AreSpans at (length text) tokens
follow_spans text at end [] f = tt
follow_spans text at end (token ∷ tokens) f = (next_span text at token f.0, follow_spans text token.end end tokens f.1)

-- ---- one more token

pub follow_more : (text : List ℕ) (from at : ℕ) (tokens : List Token) (token : Token) → Follow text from tokens at → IsNext text at token → Follow text from (tokens ++ token ∷ []) token.end
follow_more text from at [] token f n = (subst (λ k. IsNext text k token) (sym f) n, refl)
follow_more text from at (first ∷ tokens) token f n = (f.0, follow_more text first.end at tokens token f.1 n)

pub falls : (text : List ℕ) (at : ℕ) (token : Token) → at ≤ length text → IsNext text at token → length text - token.end < length text - at
falls text at token w n = let s = next_span text at token n in omega (arith, s.begins, s.some, s.ends)

pub stays : (text : List ℕ) (at : ℕ) (token : Token) → IsNext text at token → token.end ≤ length text
stays text at token n = (next_span text at token n).ends
