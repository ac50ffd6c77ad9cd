-- The token that is taken where a piece stands.
use Rattle.std.proofs.Common.{◌≡◌, ℕ, zero, suc, ◌+◌, ◌-◌, ◌<◌, ◌≤◌, Bool, true, false, ◌&&◌, List, [], ◌∷◌, ◌++◌, length, take, drop, bytes_eq, codes, Some, None, if◌then◌else◌, inl, inr, refl, sym, ap, subst, ◌∙◌, append_assoc, arith, length-append, true≢false}
use Rattle.std.proofs.lemmas.Bool.{and_left, and_right, cases_Bool}
use Rattle.std.proofs.Math.Seq.{take-append_seam, take-append-add, drop-append_seam}
use Rattle.std.specs.Cmp.Lexicographic.{same_text}
use Rattle.no_lex.specs.declared.token.Token.{Token}
use Rattle.no_lex.specs.declared.token.TokenKind.{TokenKind}
use Rattle.no_lex.specs.declared.token.TokenKind.TheVariants as kind
use Rattle.no_lex.specs.Spelling.{kind_of}
use Rattle.no_lex.specs.Tokens.{skipped, IsLongest, begins_with, may_label, settled}
use Rattle.no_print.specs.Pieces.{Piece}
use Rattle.no_round_trip.specs.Fits.{IsLabel, Spells, is_single, stays_apart, Fits}
use Rattle.no_round_trip.proofs.LexEnds.{more_none, c_none, sign_none, never}
use Rattle.no_round_trip.proofs.LexHeads.{HasEnd, begins, ended, apart_end, quote_end}

-- these bytes with what is behind them give a token of this kind, which has these bytes
pub record Taken (bytes rest : List ℕ) (k : TokenKind) : Type 0 where
  pub kind : TokenKind
  pub size : ℕ
  pub some : 0 < size
  pub begins : skipped false (bytes ++ rest) ≡ 0
  pub longest : IsLongest (bytes ++ rest) kind size
  pub settles : (start : ℕ) → settled start kind size (bytes ++ rest) ≡ record { kind = k; start = start; end = start + length bytes }

-- no more bytes are a token
abbrev Alone : List ℕ → List ℕ → Type 0
Alone bytes rest = (j : ℕ) → 0 < j → j ≤ length rest → kind_of (bytes ++ take j rest) ≡ None

longest : (bytes rest : List ℕ) (k : TokenKind) → kind_of bytes ≡ Some k → Alone bytes rest → IsLongest (bytes ++ rest) k (length bytes)
longest bytes rest k e alone = record {
  within = omega (arith, length-append bytes rest);
  spells = ap kind_of (take-append_seam bytes rest) ∙ e;
  longest = more;
}
  where
    more : (m : ℕ) → length bytes < m → m ≤ length (bytes ++ rest) → kind_of (take m (bytes ++ rest)) ≡ None
    more m low high =
        let both = length-append bytes rest in
        let is : m ≡ length bytes + (m - length bytes) = omega arith in
        ap (λ n. kind_of (take n (bytes ++ rest))) is ∙ ap kind_of (take-append-add bytes rest (m - length bytes)) ∙ alone (m - length bytes) (omega arith) (omega arith)

not_none : (bytes : List ℕ) (k : TokenKind) → kind_of bytes ≡ Some k → 0 < length bytes
not_none [] k e = absurd (never k e)
not_none (b ∷ bytes) k e = omega arith

not_skipped : (bytes rest : List ℕ) (k : TokenKind) → kind_of bytes ≡ Some k → skipped false (bytes ++ rest) ≡ 0
not_skipped [] rest k e = absurd (never k e)
not_skipped (b ∷ bytes) rest k e = let no = begins b bytes k e in rw (no.0, no.1) refl

-- ---- what settles a token

abbrev settled_by : Bool → Bool → ℕ → TokenKind → ℕ → Token
settled_by label mark start k size =
    if label then record { kind = kind.Label; start = start; end = start + size + 1 }
    else (if mark then record { kind = kind.CMark; start = start; end = start + size } else record { kind = k; start = start; end = start + size })

settles_by : (start : ℕ) (k : TokenKind) (bytes rest : List ℕ) (label mark : Bool) → (may_label k && begins_with 58 rest) ≡ label → (bytes_eq bytes (codes "c") && begins_with 34 rest) ≡ mark
    → settled start k (length bytes) (bytes ++ rest) ≡ settled_by label mark start k (length bytes)
settles_by start k bytes rest label mark l m =
    let front = take-append_seam bytes rest in
    let back = drop-append_seam bytes rest in
    let a : (may_label k && begins_with 58 (drop (length bytes) (bytes ++ rest))) ≡ label = ap (λ ys. may_label k && begins_with 58 ys) back ∙ l in
    let b : (bytes_eq (take (length bytes) (bytes ++ rest)) (codes "c") && begins_with 34 (drop (length bytes) (bytes ++ rest))) ≡ mark =
    ap (λ ys. bytes_eq ys (codes "c") && begins_with 34 (drop (length bytes) (bytes ++ rest))) front ∙ ap (λ ys. bytes_eq bytes (codes "c") && begins_with 34 ys) back ∙ m in
    λ i. settled_by (a i) (b i) start k (length bytes)

-- ---- pieces in front of a byte where tokens end

end_alone : (bytes rest : List ℕ) (k : TokenKind) → kind_of bytes ≡ Some k → HasEnd rest → Alone bytes rest
end_alone bytes rest k e end = subst (Alone bytes) (sym end.is) alone
  where
    alone : (j : ℕ) → 0 < j → j ≤ length (end.first ∷ end.more) → kind_of (bytes ++ take j (end.first ∷ end.more)) ≡ None
    alone zero low high = absurd (omega arith)
    alone (suc j) low high = more_none bytes k end.first (take j end.more) e end.ends.name end.ends.quote

plain_taken : (bytes rest : List ℕ) (k : TokenKind) → kind_of bytes ≡ Some k → HasEnd rest → Taken bytes rest k
plain_taken bytes rest k e end = record {
  kind = k;
  size = length bytes;
  some = not_none bytes k e;
  begins = not_skipped bytes rest k e;
  longest = longest bytes rest k e (end_alone bytes rest k e end);
  settles = λ start. settles_by start k bytes rest false false
      (and_right (may_label k) (begins_with 58 rest) (ap (begins_with 58) end.is ∙ end.ends.colon))
      (and_right (bytes_eq bytes (codes "c")) (begins_with 34 rest) (ap (begins_with 34) end.is ∙ end.ends.quote));
}

-- ---- labels, marks and signs

label_alone : (name rest : List ℕ) (k : TokenKind) → kind_of name ≡ Some k → Alone name (58 ∷ rest)
label_alone name rest k e zero low high = absurd (omega arith)
label_alone name rest k e (suc j) low high = more_none name k 58 (take j rest) e refl refl

name_taken : (name rest : List ℕ) (k : TokenKind) → kind_of name ≡ Some k → may_label k ≡ true → Taken (name ++ 58 ∷ []) rest kind.Label
name_taken name rest k e may =
    let same : name ++ 58 ∷ rest ≡ (name ++ 58 ∷ []) ++ rest = sym (append_assoc name (58 ∷ []) rest) in
    let size : length (name ++ 58 ∷ []) ≡ length name + 1 = length-append name (58 ∷ []) in
    let long : (start : ℕ) → start + length name + 1 ≡ start + length (name ++ 58 ∷ []) = λ start. omega (arith, size) in
    record {
      kind = k;
      size = length name;
      some = not_none name k e;
      begins = ap (skipped false) (sym same) ∙ not_skipped name (58 ∷ rest) k e;
      longest = subst (λ ys. IsLongest ys k (length name)) same (longest name (58 ∷ rest) k e (label_alone name rest k e));
      settles = λ start. ap (settled start k (length name)) (sym same)
          ∙ settles_by start k name (58 ∷ rest) true _ (ap (λ b. b && true) may) refl
          ∙ ap (λ n. record { kind = kind.Label; start = start; end = n }) (long start);
    }

label_taken : (bytes rest : List ℕ) → IsLabel bytes → Taken bytes rest kind.Label
label_taken bytes rest l = subst (λ ys. Taken ys rest kind.Label) (sym l.is) (name_taken l.name rest l.kind l.spells l.may)

c_alone : (more : List ℕ) → Alone (codes "c") (34 ∷ more)
c_alone more zero low high = absurd (omega arith)
c_alone more (suc j) low high = c_none (take j more)

mark_taken : (more : List ℕ) → Taken (codes "c") (34 ∷ more) kind.CMark
mark_taken more = record {
  kind = kind.Word;
  size = 1;
  some = omega arith;
  begins = refl;
  longest = longest (codes "c") (34 ∷ more) kind.Word refl (c_alone more);
  settles = λ start. refl;
}

sign_alone : (b : ℕ) (rest : List ℕ) → kind_of (b ∷ []) ≡ Some kind.Sign → Alone (b ∷ []) rest
sign_alone b rest e zero low high = absurd (omega arith)
sign_alone b [] e (suc j) low high = absurd (omega arith)
sign_alone b (c ∷ rest) e (suc j) low high = sign_none b c (take j rest) e

no_sign : kind_of (codes "c") ≡ Some kind.Sign → ⊥
no_sign e = cc

sign_no_c : (bytes : List ℕ) → kind_of bytes ≡ Some kind.Sign → bytes_eq bytes (codes "c") ≡ false
sign_no_c bytes e = elim (cases_Bool (bytes_eq bytes (codes "c"))) [
  | inl is ↦ absurd (no_sign (subst (λ ys. kind_of ys ≡ Some kind.Sign) (same_text bytes (codes "c") (sym is)) e))
  | inr other ↦ other
]

single_taken : (bytes rest : List ℕ) → is_single bytes ≡ true → kind_of bytes ≡ Some kind.Sign → Taken bytes rest kind.Sign
single_taken [] rest single e = absurd (true≢false (sym single))
single_taken (b ∷ c ∷ bytes) rest single e = absurd (true≢false (sym single))
single_taken (b ∷ []) rest single e = record {
  kind = kind.Sign;
  size = 1;
  some = omega arith;
  begins = not_skipped (b ∷ []) rest kind.Sign e;
  longest = longest (b ∷ []) rest kind.Sign e (sign_alone b rest e);
  settles = λ start. settles_by start kind.Sign (b ∷ []) rest false false refl (and_left (bytes_eq (b ∷ []) (codes "c")) (begins_with 34 rest) (sign_no_c (b ∷ []) e));
}

-- ---- all pieces

pub taken : (k : TokenKind) (bytes : List ℕ) (pieces : List Piece) → Spells k bytes → stays_apart k bytes pieces ≡ true → Fits pieces → Taken bytes (ended pieces) k
taken kind.Label bytes pieces s apart fits = label_taken bytes (ended pieces) s
taken kind.CMark bytes pieces s apart fits =
    let q = quote_end pieces fits apart in
    subst (λ ys. Taken ys (ended pieces) kind.CMark) (sym s) (subst (λ ys. Taken (codes "c") ys kind.CMark) (sym q.1) (mark_taken q.0))
taken kind.Sign bytes pieces s apart fits = elim (cases_Bool (is_single bytes)) [
  | inl single ↦ single_taken bytes (ended pieces) single s
  | inr other ↦ plain_taken bytes (ended pieces) kind.Sign s (apart_end pieces fits (rw other at apart))
]
taken kind.Word bytes pieces s apart fits = plain_taken bytes (ended pieces) kind.Word s (apart_end pieces fits apart)
taken kind.Integer bytes pieces s apart fits = plain_taken bytes (ended pieces) kind.Integer s (apart_end pieces fits apart)
taken kind.Global bytes pieces s apart fits = plain_taken bytes (ended pieces) kind.Global s (apart_end pieces fits apart)
taken kind.Local bytes pieces s apart fits = plain_taken bytes (ended pieces) kind.Local s (apart_end pieces fits apart)
taken kind.Group bytes pieces s apart fits = plain_taken bytes (ended pieces) kind.Group s (apart_end pieces fits apart)
taken kind.Meta bytes pieces s apart fits = plain_taken bytes (ended pieces) kind.Meta s (apart_end pieces fits apart)
taken kind.Quoted bytes pieces s apart fits = plain_taken bytes (ended pieces) kind.Quoted s (apart_end pieces fits apart)
