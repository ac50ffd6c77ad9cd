-- One form at the top of a text is read again.
use Rattle.std.proofs.Common.{◌≡◌, ℕ, Bool, true, false, not, ◌&&◌, ◌||◌, ◌==◌, nat_lt, length, List, [], ◌∷◌, ◌++◌, codes, bytes_eq, Option, Some, None, Result, Ok, Err, if◌then◌else◌, refl, sym, ap, ◌∙◌}
use Rattle.no_ir.specs.declared.function.Role.{Role}
use Rattle.no_lex.specs.declared.token.TokenKind.{TokenKind}
use Rattle.no_lex.specs.declared.token.TokenKind.TheVariants as kind
use Rattle.no_read_rules.specs.declared.fault.Flaw.{Flaw}
use Rattle.no_read_rules.specs.declared.fault.Flaw.TheVariants.{Syntax}
use Rattle.no_read_rules.specs.Rules.{keeping, plain, done, ◌>>=◌, lift, if_next, maybe}
use Rattle.no_read_rules.specs.Scope.{Meaning}
use Rattle.no_read_rules.specs.Spelled.{kind_number, is_kind, is_sign, a_word}
use Rattle.no_read_rules.specs.Unescaped.{unescaped, inner}
use Rattle.no_read_attributes.specs.Brackets.{closes, to_close, bracketed}
use Rattle.no_read_attributes.specs.Words.{is_node}
use Rattle.no_read_toplevel.specs.Globals.{metadata_of}
use Rattle.no_read_toplevel.specs.declared.tops.Top.{Top}
use Rattle.no_read_toplevel.specs.declared.tops.Top.TheVariants as top
use Rattle.no_read_toplevel.specs.declared.tops.TopWord.{TopWord}
use Rattle.no_read_toplevel.specs.declared.tops.TopWord.TheVariants as begins
use Rattle.no_read_toplevel.specs.Tops.{word_of, or_syntax, top_word, is_top_word, begins_top, layout_top, target_top, global_top, node_top, after_word, worded, a_top}
use Rattle.no_print.specs.Modules.{layout_pieces, node_pieces}
use Rattle.no_print.specs.Names.{string}
use Rattle.no_print.specs.Pieces.{Piece, glued, spaced, lined, piece, word, sign}
use Rattle.no_round_trip.specs.Spells.{AreBytes, Spells, over}
use Rattle.no_round_trip.proofs.RuleFrame.{plain_spells, done_spells, then_spells, made_spells, lift_spells, yes_spells, no_spells}
use Rattle.no_round_trip.proofs.RuleListing.{sign_spells}
use Rattle.no_names.proofs.Again.{string_again}
use Rattle.no_round_trip.proofs.RuleStanding.{Heads, Tests, begins_none, stand_one}
use Rattle.no_round_trip.proofs.RuleStanding as standing
use Rattle.no_round_trip.proofs.TopSteps.{tested, sign_then}
use Rattle.no_read_toplevel.specs.Entities.{layout_of, a_target, bare_of, is_distinct, a_node}

module _ (text : List ℕ) where
  -- ---- the layout

  abbrev target_by : TokenKind → List ℕ → Result (Bool × Bool) Flaw
  target_by k bytes =
      if (kind_number k == kind_number kind.Word) && bytes_eq bytes (codes "triple") then Ok (false, false)
      else (if (kind_number k == kind_number kind.Word) && bytes_eq bytes (codes "datalayout") then (if false then Err Syntax else Ok (true, true))
      else Err Syntax)

  target_spells : (layout : List ℕ) → AreBytes layout → Spells text (a_target text) false (word spaced (codes "datalayout") ++ (sign spaced (codes "=") ++ string spaced layout)) (Some layout) true
  unfolding a_target
  target_spells layout h [] stand = absurd stand
  target_spells layout h (t ∷ []) stand = absurd stand.1
  target_spells layout h (t ∷ e ∷ []) stand = absurd stand.1.1
  target_spells layout h (t ∷ e ∷ v ∷ u ∷ tokens) stand = absurd stand.1.1.1
  target_spells layout h (t ∷ e ∷ v ∷ []) stand =
      let is : layout_of text true v ≡ Some layout = ap (λ bytes. Some (unescaped (inner bytes))) stand.1.1.0.bytes ∙ ap (λ l. Some l) (string_again layout h) in
      record {
        front = t ∷ [];
        back = e ∷ v ∷ [];
        first = true;
        between = true;
        parts = refl;
        in_front = record { token = t; alone = refl; value = tested text target_by t (record { gap = spaced; kind = kind.Word; bytes = codes "datalayout" }) stand.0 };
        in_back = record {
          front = e ∷ [];
          back = v ∷ [];
          first = tt;
          between = true;
          parts = refl;
          in_front = sign_spells text spaced true (codes "=") refl (e ∷ []) (stand.1.0, tt);
          in_back = record {
            front = v ∷ [];
            back = [];
            first = v;
            between = true;
            parts = refl;
            in_front = (record { token = v; alone = refl; value = ap (λ k. keeping tt (if kind_number k == kind_number kind.Quoted then Ok v else Err Syntax)) stand.1.1.0.kind }, refl);
            in_back = (refl, sym is, refl);
          };
        };
      }

  -- ---- the node of marks

  node_piece : Piece
  node_piece = record { gap = lined; kind = kind.Meta; bytes = codes "!0" }

  abbrev node_by : TokenKind → List ℕ → Result (Unit {0}) Flaw
  node_by k bytes = if (kind_number k == kind_number kind.Meta) && (nat_lt 1 (length bytes) && not (is_node bytes)) then Ok tt else Err Syntax

  abbrev bare_by : TokenKind → List ℕ → Result (Unit {0}) Flaw
  bare_by k bytes = if (kind_number k == kind_number kind.Meta) && bytes_eq bytes (codes "!") then Ok tt else Err Syntax

  close_spells : Spells {S = Unit {0}} text (to_close text (codes "{") (codes "}")) tt (sign glued (codes "}")) tt tt
  close_spells tokens stand =
      let p : Piece = record { gap = glued; kind = kind.Sign; bytes = codes "}" } in
      let r = stand_one text tokens p stand in
      let opens : is_sign text (codes "{") r.token ≡ false = tested text (λ k bytes. (kind_number k == kind_number kind.Sign) && bytes_eq bytes (codes "{")) r.token p r.is in
      let ends : is_sign text (codes "}") r.token ≡ true = tested text (λ k bytes. (kind_number k == kind_number kind.Sign) && bytes_eq bytes (codes "}")) r.token p r.is in
      let one : closes text (codes "{") (codes "}") 0 (r.token ∷ []) ≡ true = rw (opens, ends) refl in
      (ap (closes text (codes "{") (codes "}") 0) r.alone ∙ one, refl, refl)

  node_spells : Spells text (a_node text) tt (node_pieces true) tt tt
  unfolding a_node bracketed
  node_spells =
      then_spells text (plain (metadata_of text)) _ tt tt tt (piece kind.Meta lined (codes "!0")) _ tt tt (plain_spells text node_by tt (record { gap = lined; kind = kind.Meta; bytes = codes "!0" }) tt refl)
      (sign_then text spaced (codes "=") _ tt tt (piece kind.Meta spaced (codes "!") ++ (sign glued (codes "{") ++ sign glued (codes "}"))) tt refl
      (then_spells text (maybe (is_distinct text) (a_word text (codes "distinct"))) _ tt tt tt [] (piece kind.Meta spaced (codes "!") ++ (sign glued (codes "{") ++ sign glued (codes "}"))) None tt
      (no_spells text (is_distinct text) (a_word text (codes "distinct") >>= λ a. done (Some a)) (done None) tt [] None tt (begins_none text (is_distinct text)) (done_spells text tt None))
      (then_spells text (plain (bare_of text)) _ tt tt tt (piece kind.Meta spaced (codes "!")) (sign glued (codes "{") ++ sign glued (codes "}")) tt tt
      (plain_spells text bare_by tt (record { gap = spaced; kind = kind.Meta; bytes = codes "!" }) tt refl)
      (sign_then text glued (codes "{") (λ _. to_close text (codes "{") (codes "}")) tt tt (sign glued (codes "}")) tt refl close_spells))))

  -- ---- with which a form begins

  abbrev word_by : TokenKind → List ℕ → Option TopWord
  word_by k bytes = if kind_number k == kind_number kind.Word then word_of bytes else None

  abbrev top_by : TokenKind → List ℕ → Bool
  top_by k bytes = (kind_number k == kind_number kind.Global) || ((kind_number k == kind_number kind.Meta) || is_top_word (word_by k bytes))

  -- the first piece begins a form
  abbrev pub Tops : List Piece → Type 0
  Tops = Heads (Tests text (begins_top text) true)

  pub word_tops : (gap w : List ℕ) (which : TopWord) (back : List Piece) → word_of w ≡ Some which → Tops (word gap w ++ back)
  word_tops gap w which back e token h = tested text top_by token (record { gap = gap; kind = kind.Word; bytes = w }) h ∙ ap is_top_word e

  pub global_tops : (gap bytes : List ℕ) (back : List Piece) → Tops (piece kind.Global gap bytes ++ back)
  global_tops gap bytes back token h = tested text top_by token (record { gap = gap; kind = kind.Global; bytes = bytes }) h

  pub meta_tops : (gap bytes : List ℕ) (back : List Piece) → Tops (piece kind.Meta gap bytes ++ back)
  meta_tops gap bytes back token h = tested text top_by token (record { gap = gap; kind = kind.Meta; bytes = bytes }) h

  pub kind_begins : (k j : TokenKind) (gap bytes : List ℕ) (back : List Piece) (answer : Bool) → (kind_number k == kind_number j) ≡ answer → standing.Begins text (is_kind j) answer (piece k gap bytes ++ back)
  kind_begins k j gap bytes back answer e =
      standing.begins text (is_kind j) answer (piece k gap bytes ++ back) (λ token h. tested text (λ i bs. kind_number i == kind_number j) token (record { gap = gap; kind = k; bytes = bytes }) h ∙ e)

-- ---- forms

module _ (m : Meaning) (text : List ℕ) (role : Role) where
  -- a form that begins with a word
  pub worded_spells : (gap w : List ℕ) (which : TopWord) (back : List Piece) (x : Top) (s t : Bool) → word_of w ≡ Some which → Spells text (after_word (over m text) role which) s back x t
      → Spells text (a_top (over m text) role) s (word gap w ++ back) x t
  unfolding a_top worded
  worded_spells gap w which back x s t e h =
      no_spells text (is_kind kind.Global) (global_top (over m text)) (if_next (is_kind kind.Meta) (node_top (over m text)) (worded (over m text) role)) s (word gap w ++ back) x t (kind_begins text kind.Word kind.Global gap w back false refl)
      (no_spells text (is_kind kind.Meta) (node_top (over m text)) (worded (over m text) role) s (word gap w ++ back) x t (kind_begins text kind.Word kind.Meta gap w back false refl)
      (then_spells text (plain (top_word text)) (after_word (over m text) role) s s t (word gap w) back which x
      (plain_spells text (λ k bytes. or_syntax (word_by text k bytes)) s (record { gap = gap; kind = kind.Word; bytes = w }) which (ap or_syntax e)) h))

  pub layout_spells : (layout : List ℕ) → AreBytes layout → Spells text (a_top (over m text) role) false (layout_pieces layout) (top.Layout layout) true
  unfolding target_top
  layout_spells layout h =
      worded_spells glued (codes "target") begins.Target (word spaced (codes "datalayout") ++ (sign spaced (codes "=") ++ string spaced layout)) (top.Layout layout) false true refl
      (made_spells text (a_target text) layout_top false true (word spaced (codes "datalayout") ++ (sign spaced (codes "=") ++ string spaced layout)) (Some layout) (target_spells text layout h))

  pub layout_tops : (layout : List ℕ) → Tops text (layout_pieces layout)
  layout_tops layout = word_tops text glued (codes "target") begins.Target (word spaced (codes "datalayout") ++ (sign spaced (codes "=") ++ string spaced layout)) refl

  pub node_top_spells : (s : Bool) → Spells text (a_top (over m text) role) s (node_pieces true) top.Nothing s
  unfolding a_top node_top
  node_top_spells s =
      no_spells text (is_kind kind.Global) (global_top (over m text)) (if_next (is_kind kind.Meta) (node_top (over m text)) (worded (over m text) role)) s (node_pieces true) top.Nothing s (kind_begins text kind.Meta kind.Global lined (codes "!0") (sign spaced (codes "=") ++ (piece kind.Meta spaced (codes "!") ++ (sign glued (codes "{") ++ sign glued (codes "}")))) false refl)
      (yes_spells text (is_kind kind.Meta) (lift (a_node text) >>= λ _. done top.Nothing) (worded (over m text) role) s (node_pieces true) top.Nothing s
      (kind_begins text kind.Meta kind.Meta lined (codes "!0") (sign spaced (codes "=") ++ (piece kind.Meta spaced (codes "!") ++ (sign glued (codes "{") ++ sign glued (codes "}")))) true refl)
      (made_spells text (lift (a_node text)) (λ _. top.Nothing) s s (node_pieces true) tt (lift_spells text (a_node text) s (node_pieces true) tt (node_spells text))))
