-- Registers and labels are numbered again by their names.
use Rattle.std.proofs.Common.{◌≡◌, ℕ, ◌-◌, ◌==◌, Bool, true, false, List, [], ◌∷◌, ◌++◌, length, take, drop, reverse, bytes_eq, codes, Result, Ok, Err, if◌then◌else◌, refl, sym, ap, subst, ◌∙◌, arith, length-append}
use Rattle.std.proofs.Math.Seq.{take-append_seam}
use Rattle.no_lex.specs.declared.token.Token.{Token}
use Rattle.no_lex.specs.declared.token.TokenKind.{TokenKind}
use Rattle.no_lex.specs.declared.token.TokenKind.TheVariants as kind
use Rattle.no_ir.specs.Naming.{place_of, with_name}
use Rattle.no_read_rules.specs.declared.fault.Flaw.{Flaw}
use Rattle.no_read_rules.specs.declared.fault.Flaw.TheVariants.{Syntax, Number}
use Rattle.no_read_rules.specs.Rules.{Rule, one}
use Rattle.no_read_rules.specs.Spelled.{spelled, kind_number, is_kind}
use Rattle.no_read_rules.specs.Unescaped.{name_of}
use Rattle.no_read_registers.specs.declared.locals.Locals.{Locals}
use Rattle.no_read_registers.specs.Counting.{next, behind_name, label_fits}
use Rattle.no_read_registers.specs.Numbered.{register_named, label_named, register_defined, label_defined, register_unnamed, label_unnamed, used_register, a_register, written_register, a_definition, no_name, used_label, a_label_name, without_colon, label_by, written_label, a_block_label, numbered_label, fitting, no_block_label}
use Rattle.no_read_registers.specs.Numbered as numbered
use Rattle.no_print.specs.Names.{name_at, spelling, quoted, label_spelling, local_name, label_line}
use Rattle.no_print.specs.Pieces.{Piece}
use Rattle.no_round_trip.specs.Spells.{AreBytes}
use Rattle.no_round_trip.proofs.WordBytes.{bytes_name, bytes_spelled}
use Rattle.no_round_trip.proofs.RuleFound.{bytes_take, bytes_drop}
use Rattle.no_round_trip.proofs.RuleFrame.{one_spells}
use Rattle.no_names.proofs.Again.{name_again, string_again}
use Rattle.no_round_trip.proofs.RuleOpening.{from_fine}
use Rattle.no_round_trip.specs.States.{IsFine}
use Rattle.no_round_trip.proofs.BodyReturning.{Returns}
use Rattle.no_round_trip.proofs.BodyWithin.{name_placed, grown, names_with, bytes_back, bytes_next, bytes_counter}

abbrev Answer : Type 0
Answer = Result (ℕ × Locals) Flaw

-- ---- what names are spelled as

-- the name of a label's token
label_again : (name : List ℕ) → AreBytes name → name_of (label_spelling name) ≡ name
label_again name b = by (bytes_eq name (codes "..."))
  where
    by : (d : Bool) → name_of (if d then quoted name else spelling name) ≡ name
    by true = string_again name b
    by false = name_again name b

colon_off : (bytes : List ℕ) → without_colon (bytes ++ 58 ∷ []) ≡ bytes
colon_off bytes = let e : length (bytes ++ 58 ∷ []) - 1 ≡ length bytes = omega (arith, length-append bytes (58 ∷ [])) in ap (λ n. take n (bytes ++ 58 ∷ [])) e ∙ take-append_seam bytes (58 ∷ [])

module _ (text : List ℕ) (last : Locals) where
  -- ---- registers

  -- a rule for one name of a register, with what becomes of the counter
  abbrev register_by : (Locals → List ℕ → List ℕ) → Locals → TokenKind → List ℕ → Answer
  register_by c z k bytes =
      if kind_number k == kind_number kind.Local
      then Ok (place_of z.registers (name_of (drop 1 bytes)), record { registers = with_name z.registers (name_of (drop 1 bytes)); labels = z.labels; counter = c z (name_of (drop 1 bytes)) })
      else Err Syntax

  abbrev a_register_by : (Locals → List ℕ → List ℕ) → Rule Locals ℕ
  a_register_by c = one (λ z token. register_by c z token.kind (spelled text token))

  register_returns : (c : Locals → List ℕ → List ℕ) (gap name counter : List ℕ) (s : Locals) → (IsFine s → AreBytes name) → (IsFine s → AreBytes counter)
      → Returns text last (a_register_by c) (local_name gap (name_at last.registers (place_of s.registers name))) (place_of s.registers name) s
      (record { registers = with_name s.registers name; labels = s.labels; counter = counter })
  register_returns c gap name counter s b k = record {
    fine = λ h. record { registers = names_with s.registers name h.registers (b h); labels = h.labels; counter = k h };
    holds = λ w. record { registers = grown s.registers last.registers name w.registers; labels = w.labels };
    spells = λ h w z l.
        let n : ℕ = place_of s.registers name in
        let is : name_at last.registers n ≡ name = name_placed s.registers last.registers name w.registers in
        let back : name_of (spelling (name_at last.registers n)) ≡ name = ap (λ x. name_of (spelling x)) is ∙ name_again name (b h) in
        let u : Locals = record { registers = with_name z.registers name; labels = z.labels; counter = c z name } in
        let p : Piece = record { gap = gap; kind = kind.Local; bytes = 37 ∷ spelling (name_at last.registers n) } in
        let good : List ℕ → Answer = λ x. Ok (place_of z.registers x, record { registers = with_name z.registers x; labels = z.labels; counter = c z x }) in
        let placed : List (List ℕ) → Answer = λ r. Ok (place_of r name, u) in (
          u,
          record { registers = ap (λ r. with_name r name) l.registers; labels = l.labels },
          one_spells text (λ z token. register_by c z token.kind (spelled text token)) z p n u (λ token x.
              ap (λ k. register_by c z k (spelled text token)) x.kind ∙ ap (register_by c z kind.Local) x.bytes ∙ ap good back ∙ ap placed l.registers),
        );
  }

  -- ---- labels

  abbrev label_used_by : Locals → TokenKind → List ℕ → Answer
  label_used_by z k bytes =
      if kind_number k == kind_number kind.Local
      then Ok (place_of z.labels (name_of (drop 1 bytes)), record { registers = z.registers; labels = with_name z.labels (name_of (drop 1 bytes)); counter = z.counter })
      else Err Syntax

  label_returns : (gap name counter : List ℕ) (s : Locals) → (IsFine s → AreBytes name) → (IsFine s → AreBytes counter)
      → Returns text last (a_label_name text) (local_name gap (name_at last.labels (place_of s.labels name))) (place_of s.labels name) s
      (record { registers = s.registers; labels = with_name s.labels name; counter = counter })
  label_returns gap name counter s b k = record {
    fine = λ h. record { registers = h.registers; labels = names_with s.labels name h.labels (b h); counter = k h };
    holds = λ w. record { registers = w.registers; labels = grown s.labels last.labels name w.labels };
    spells = λ h w z l.
        let n : ℕ = place_of s.labels name in
        let is : name_at last.labels n ≡ name = name_placed s.labels last.labels name w.labels in
        let back : name_of (spelling (name_at last.labels n)) ≡ name = ap (λ x. name_of (spelling x)) is ∙ name_again name (b h) in
        let u : Locals = record { registers = z.registers; labels = with_name z.labels name; counter = z.counter } in
        let p : Piece = record { gap = gap; kind = kind.Local; bytes = 37 ∷ spelling (name_at last.labels n) } in
        let good : List ℕ → Answer = λ x. Ok (place_of z.labels x, record { registers = z.registers; labels = with_name z.labels x; counter = z.counter }) in
        let placed : List (List ℕ) → Answer = λ r. Ok (place_of r name, u) in (
          u,
          record { registers = l.registers; labels = ap (λ r. with_name r name) l.labels },
          one_spells text (λ z token. label_used_by z token.kind (spelled text token)) z p n u (λ token x.
              ap (λ k. label_used_by z k (spelled text token)) x.kind ∙ ap (label_used_by z kind.Local) x.bytes ∙ ap good back ∙ ap placed l.labels),
        );
  }

  abbrev label_set_by : Locals → TokenKind → List ℕ → Answer
  label_set_by z k bytes = if kind_number k == kind_number kind.Label then label_by z (name_of (without_colon bytes)) else Err Syntax

  block_label_returns : (gap name counter : List ℕ) (s : Locals) → (IsFine s → AreBytes name) → (IsFine s → AreBytes counter) → label_fits name ≡ true
      → Returns text last (a_block_label text) (label_line gap (name_at last.labels (place_of s.labels name))) (place_of s.labels name) s
      (record { registers = s.registers; labels = with_name s.labels name; counter = counter })
  block_label_returns gap name counter s b k fits = record {
    fine = λ h. record { registers = h.registers; labels = names_with s.labels name h.labels (b h); counter = k h };
    holds = λ w. record { registers = w.registers; labels = grown s.labels last.labels name w.labels };
    spells = λ h w z l.
        let n : ℕ = place_of s.labels name in
        let is : name_at last.labels n ≡ name = name_placed s.labels last.labels name w.labels in
        let back : name_of (without_colon (label_spelling (name_at last.labels n) ++ 58 ∷ [])) ≡ name = ap name_of (colon_off (label_spelling (name_at last.labels n))) ∙ ap (λ x. name_of (label_spelling x)) is ∙ label_again name (b h) in
        let u : Locals = record { registers = z.registers; labels = with_name z.labels name; counter = behind_name z.counter name } in
        let p : Piece = record { gap = gap; kind = kind.Label; bytes = label_spelling (name_at last.labels n) ++ 58 ∷ [] } in
        let passed : Bool → Answer = λ d. if d then Ok (place_of z.labels name, u) else Err Number in
        let placed : List (List ℕ) → Answer = λ r. Ok (place_of r name, u) in (
          u,
          record { registers = l.registers; labels = ap (λ r. with_name r name) l.labels },
          one_spells text (λ z token. label_set_by z token.kind (spelled text token)) z p n u (λ token x.
              ap (λ k. label_set_by z k (spelled text token)) x.kind ∙ ap (label_set_by z kind.Label) x.bytes ∙ ap (label_by z) back ∙ ap passed fits ∙ ap placed l.labels),
        );
  }

-- ---- what the first text has

same_answer : (x y : ℕ × Locals) → (let r : Answer = Ok x in r) ≡ Ok y → x ≡ y
same_answer x y e = from_fine {X = ℕ × Locals} x y e

passed_test : (b : Bool) (x y : ℕ × Locals) (flaw : Flaw) → (if b then Ok x else Err flaw) ≡ Ok y → x ≡ y
passed_test true x y flaw e = same_answer x y e
passed_test false x y flaw e = absurd cc

module _ (from text : List ℕ) (bytes : AreBytes from) (last : Locals) where
  local_bytes : (token : Token) → AreBytes (numbered.local_name from token)
  local_bytes token = bytes_name (drop 1 (spelled from token)) (bytes_drop 1 (spelled from token) (bytes_spelled from token bytes))

  label_bytes : (token : Token) → AreBytes (name_of (without_colon (spelled from token)))
  label_bytes token = let x : List ℕ = spelled from token in bytes_name (without_colon x) (bytes_take (length x - 1) x (bytes_spelled from token bytes))

  abbrev Used : List ℕ → Locals → ℕ × Locals → Type 0
  Used gap s x = Returns text last (a_register text) (local_name gap (name_at last.registers x.0)) x.0 s x.1

  abbrev Set : List ℕ → Locals → ℕ × Locals → Type 0
  Set gap s x = Returns text last (a_definition text) (local_name gap (name_at last.registers x.0)) x.0 s x.1

  abbrev Named : List ℕ → Locals → ℕ × Locals → Type 0
  Named gap s x = Returns text last (a_label_name text) (local_name gap (name_at last.labels x.0)) x.0 s x.1

  abbrev Begun : List ℕ → Locals → ℕ × Locals → Type 0
  Begun gap s x = Returns text last (a_block_label text) (label_line gap (name_at last.labels x.0)) x.0 s x.1

  pub register_again : (gap : List ℕ) (s t : Locals) (tokens : List Token) (r : ℕ) → (a_register from).means s tokens r t → Used gap s (r, t)
  register_again gap s t tokens r m =
      let name : List ℕ = numbered.local_name from m.token in
      let e : register_named s name ≡ (r, t) = passed_test (is_kind kind.Local m.token) (register_named s name) (r, t) Syntax m.value in
      subst (Used gap s) e (register_returns text last (λ z name. z.counter) gap name s.counter s (λ h. local_bytes m.token) (λ h. h.counter))

  pub definition_again : (gap : List ℕ) (s t : Locals) (tokens : List Token) (r : ℕ) → (a_definition from).means s tokens r t → Set gap s (r, t)
  definition_again gap s t tokens r m =
      let name : List ℕ = numbered.local_name from m.token in
      let e : register_defined s name ≡ (r, t) = passed_test (is_kind kind.Local m.token) (register_defined s name) (r, t) Syntax m.value in
      subst (Set gap s) e (register_returns text last (λ z name. behind_name z.counter name) gap name (behind_name s.counter name) s (λ h. local_bytes m.token) (λ h. bytes_counter s.counter name h.counter (local_bytes m.token)))

  -- what had no name is named in writing
  pub no_name_again : (gap : List ℕ) (s t : Locals) (tokens : List Token) (r : ℕ) → no_name.means s tokens r t → Set gap s (r, t)
  no_name_again gap s t tokens r m =
      let e : register_unnamed s ≡ (r, t) = λ i. (sym m.1 i, sym m.2 i) in
      subst (Set gap s) e (register_returns text last (λ z name. behind_name z.counter name) gap (reverse s.counter) (next s.counter) s (λ h. bytes_back s.counter h.counter) (λ h. bytes_next s.counter h.counter))

  pub label_name_again : (gap : List ℕ) (s t : Locals) (tokens : List Token) (r : ℕ) → (a_label_name from).means s tokens r t → Named gap s (r, t)
  label_name_again gap s t tokens r m =
      let name : List ℕ = numbered.local_name from m.token in
      let e : label_named s name ≡ (r, t) = passed_test (is_kind kind.Local m.token) (label_named s name) (r, t) Syntax m.value in
      subst (Named gap s) e (label_returns text last gap name s.counter s (λ h. local_bytes m.token) (λ h. h.counter))

  pub block_label_again : (gap : List ℕ) (s t : Locals) (tokens : List Token) (r : ℕ) → (a_block_label from).means s tokens r t → Begun gap s (r, t)
  block_label_again gap s t tokens r m = by (is_kind kind.Label m.token) (label_fits name) refl m.value
    where
      name : List ℕ
      name = name_of (without_colon (spelled from m.token))

      by : (b c : Bool) → label_fits name ≡ c → (if b then (if c then Ok (label_defined s name) else Err Number) else Err Syntax) ≡ Ok (r, t) → Begun gap s (r, t)
      by true true fits e =
          subst (Begun gap s) (same_answer (label_defined s name) (r, t) e)
          (block_label_returns text last gap name (behind_name s.counter name) s (λ h. label_bytes m.token) (λ h. bytes_counter s.counter name h.counter (label_bytes m.token)) fits)
      by true false fits e = absurd cc
      by false c fits e = absurd cc

  pub no_block_label_again : (gap : List ℕ) (s t : Locals) (tokens : List Token) (r : ℕ) → no_block_label.means s tokens r t → Begun gap s (r, t)
  no_block_label_again gap s t tokens r m = by (label_fits (reverse s.counter)) refl m.value m.passes m.read.1 m.read.2
    where
      num : ℕ
      num = place_of s.labels (reverse s.counter)

      same : (x y : ℕ) → (let o : Result ℕ Flaw = Ok x in o) ≡ Ok y → x ≡ y
      same x y e = cc

      by : (c : Bool) → label_fits (reverse s.counter) ≡ c → (v : ℕ × Bool) → fitting v ≡ Ok r → v ≡ (num, label_fits (reverse s.counter)) → t ≡ (numbered_label s).1 → Begun gap s (r, t)
      by true fits v passes is state =
          let e : fitting (num, true) ≡ Ok r = sym (ap (λ d. fitting (num, d)) fits) ∙ sym (ap fitting is) ∙ passes in
          let n : num ≡ r = same num r e in
          let both : label_unnamed s ≡ (r, t) = λ i. (n i, sym state i) in
          subst (Begun gap s) both (block_label_returns text last gap (reverse s.counter) (next s.counter) s (λ h. bytes_back s.counter h.counter) (λ h. bytes_next s.counter h.counter) fits)
      by false fits v passes is state =
          let e : fitting (num, false) ≡ Ok r = sym (ap (λ d. fitting (num, d)) fits) ∙ sym (ap fitting is) ∙ passes in
          absurd cc
