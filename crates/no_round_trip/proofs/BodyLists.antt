-- Items behind commas, and what follows them, are read again.
use Rattle.std.proofs.Common.{◌≡◌, ℕ, suc, zero, Bool, true, false, not, ◌&&◌, List, [], ◌∷◌, ◌++◌, codes, inl, inr, refl, sym, ap, subst, ◌∙◌, append_assoc, append-nil}
use Rattle.no_lex.specs.declared.token.Token.{Token}
use Rattle.no_lex.specs.declared.token.TokenKind.TheVariants as kind
use Rattle.no_ir.specs.declared.function.Role.{Role}
use Rattle.no_ir.specs.declared.function.Role.TheVariants.{Source, Part}
use Rattle.no_read_rules.specs.Rules.{Rule, if_next, next_is}
use Rattle.no_read_rules.specs.Spelled.{is_kind}
use Rattle.no_read_registers.specs.declared.locals.Locals.{Locals}
use Rattle.no_read_operations.specs.declared.ends.Listed.{Listed}
use Rattle.no_read_operations.specs.Operands.{sign}
use Rattle.no_read_operations.specs.Ends.{is_comma, an_attachment, opens_item, list_item, list_attachment, list_step, listed}
use Rattle.no_read_operations.specs.Folded.{AreSteps}
use Rattle.no_print.specs.Pieces.{Piece, glued, comma, behind_commas}
use Rattle.no_print.specs.Instructions.{inserted_pieces}
use Rattle.no_round_trip.proofs.RuleListing.{sign_spells}
use Rattle.no_round_trip.proofs.RuleStanding.{Begins, begins, kind_tested}
use Rattle.no_read_rules.specs.Spelled as spelled
use Rattle.no_round_trip.proofs.BodyEnds.{MarkFits, no_mark, attachment_fits, mark_pieces, comma_first, attachment_spells}
use Rattle.no_round_trip.proofs.BodyReturning.{Returns, ending, lifted, pieces_are, yes_returns, no_returns, then_returns, made_returns, step_returns, no_steps}

pub comma_back : (text : List ℕ) (last : Locals) {s t : Locals} → t ≡ s → Returns text last (sign text (codes ",")) comma tt s t
comma_back text last e = lifted (spelled.a_sign text (codes ",")) e (sign_spells text glued tt (codes ",") refl)

-- no token passes a test that none passes
pub never : (test : Token → Bool) (tokens : List Token) → ((token : Token) → test token ≡ false) → next_is test tokens ≡ true → ⊥
never test [] fails e = absurd cc
never test (t ∷ tokens) fails e = let k : test t ≡ false = fails t in absurd cc

module _ {A : Type 0} (from text : List ℕ) (last : Locals) (role : Role) (item other : Rule Locals A) (f : A → List Piece)
    (again : (s t : Locals) (tokens : List Token) (a : A) → item.means s tokens a t → Returns text last other (f a) a s t)
    (opens : (s t : Locals) (tokens : List Token) (a : A) → item.means s tokens a t → Begins text (λ t. not (is_kind kind.Meta t)) true (f a)) where
  -- items so far, before attachments
  abbrev pub so_far : List A → Listed A
  so_far all = record { items = all; begun = false; inserted = false }

  -- items, and whether an attachment stands behind them
  abbrev pub all_of : List A → Bool → Listed A
  all_of all b = record { items = all; begun = b; inserted = b }

  abbrev Steps : ℕ → Locals → List Token → Listed A → Listed A → Locals → Type 0
  Steps = AreSteps (is_comma from) (list_step from role item)

  -- behind attachments there are only attachments
  attached : (n : ℕ) (s t : Locals) (tokens : List Token) (l all : Listed A) → l.begun ≡ true → MarkFits role l.inserted → Steps n s tokens l all t → (all.items ≡ l.items) × MarkFits role all.inserted × (t ≡ s)
  unfolding list_step list_item list_attachment
  attached zero s t tokens l all b h r = (ap (λ (x : Listed A). x.items) r.1, subst (λ (x : Listed A). MarkFits role x.inserted) (sym r.1) h, r.2)
  attached (suc n) s t tokens l all b h r = by r.first.in_back r.first.in_front.1 (λ begun fits. attached n r.between t r.back r.value all begun fits r.others)
    where
      by : (if_next (opens_item l) (list_item item l) (list_attachment from role l)).means r.first.between r.first.back r.value r.between → r.first.between ≡ s
          → (r.value.begun ≡ true → MarkFits role r.value.inserted → (all.items ≡ r.value.items) × MarkFits role all.inserted × (t ≡ r.between)) → (all.items ≡ l.items) × MarkFits role all.inserted × (t ≡ s)
      by (inl k) e more = absurd (never (opens_item l) r.first.back (λ token. ap (λ b. not b && not (is_kind kind.Meta token)) b) k.0)
      by (inr k) e more =
          let is : r.value ≡ record { items = l.items; begun = true; inserted = k.1.first } = k.1.in_back.1 in
          let fits = attachment_fits from role l.inserted k.1.first k.1.front k.1.in_front.0 h in
          let x = more (ap (λ (x : Listed A). x.begun) is) (subst (λ (x : Listed A). MarkFits role x.inserted) (sym is) fits) in
          (x.0 ∙ ap (λ (x : Listed A). x.items) is, x.1, x.2 ∙ k.1.in_back.2 ∙ k.1.in_front.1 ∙ e)

  -- ---- how the end is spelled

  no_item : (all : List A) → Begins text (opens_item (so_far all)) false mark_pieces
  no_item all = begins text (opens_item (so_far all)) false mark_pieces (λ token h. ap not (kind_tested text kind.Meta _ token h))

  marked : (all : List A) {s : Locals} → Returns text last (list_step text Part other (so_far all)) (comma ++ mark_pieces) (all_of all true) s s
  unfolding list_step list_attachment
  marked all = then_returns (comma_back text last refl) (no_returns (no_item all) (made_returns (lifted (an_attachment text Part false) refl (attachment_spells text))))

  end_back : (role : Role) (all : List A) (b : Bool) → MarkFits role b → {s : Locals} → Returns text last (listed text role other (so_far all)) (inserted_pieces b) (all_of all b) s s
  end_back role all false h = no_steps (so_far all)
  end_back Source all true h = absurd cc
  end_back Part all true h = step_returns (comma_first text mark_pieces) (marked all) (no_steps (all_of all true))

  -- ---- items and the end

  pub record ListedBack (before items : List A) (b : Bool) (s t : Locals) : Type 0 where
    pub more : List A
    pub are : items ≡ before ++ more
    pub back : Returns text last (listed text role other (so_far before)) (behind_commas f more ++ inserted_pieces b) (all_of (before ++ more) b) s t

  one_more : (before : List A) (a : A) {s u : Locals} → Begins text (λ t. not (is_kind kind.Meta t)) true (f a) → Returns text last other (f a) a s u
      → Returns text last (list_step text role other (so_far before)) (comma ++ f a) (so_far (before ++ a ∷ [])) s u
  unfolding list_step list_item
  one_more before a first x = then_returns (comma_back text last refl) (yes_returns first (made_returns x))

  items_back : (n : ℕ) (s t : Locals) (tokens : List Token) (before : List A) (all : Listed A) → Steps n s tokens (so_far before) all t → ListedBack before all.items all.inserted s t
  unfolding list_step list_item list_attachment
  items_back zero s t tokens before all r =
      subst (λ (x : Listed A). ListedBack before x.items x.inserted s t) (sym r.1) (record {
        more = [];
        are = sym (append-nil before);
        back = ending r.2 (subst (λ l. Returns text last (listed text role other (so_far before)) [] (all_of l false) s s) (sym (append-nil before)) (end_back role before false (no_mark role)));
      })
  items_back (suc n) s t tokens before all r = by r.first.in_back r.first.in_front.1 (λ others is. items_back n r.between t r.back others all (subst (λ (v : Listed A). Steps n r.between r.back v all t) is r.others))
    where
      by : (if_next (opens_item (so_far before)) (list_item item (so_far before)) (list_attachment from role (so_far before))).means r.first.between r.first.back r.value r.between → r.first.between ≡ s
          → ((others : List A) → r.value ≡ so_far others → ListedBack others all.items all.inserted r.between t) → ListedBack before all.items all.inserted s t
      by (inl k) e more =
          let a : A = k.1.first in
          let is : r.value ≡ so_far (before ++ a ∷ []) = k.1.in_back.1 in
          let x = more (before ++ a ∷ []) is in
          let first = subst (λ v. Returns text last other (f a) a v r.between) e (ending k.1.in_back.2 (again r.first.between k.1.between k.1.front a k.1.in_front)) in
          let shape : (before ++ a ∷ []) ++ x.more ≡ before ++ (a ∷ x.more) = append_assoc before (a ∷ []) x.more in
          record {
            more = a ∷ x.more;
            are = x.are ∙ shape;
            back = subst (λ l. Returns text last (listed text role other (so_far before)) (behind_commas f (a ∷ x.more) ++ inserted_pieces all.inserted) (all_of l all.inserted) s t) shape
                (pieces_are (ap (λ l. comma ++ l) (sym (append_assoc (f a) (behind_commas f x.more) (inserted_pieces all.inserted))))
                (step_returns (comma_first text (f a)) (one_more before a (opens r.first.between k.1.between k.1.front a k.1.in_front) first) x.back));
          }
      by (inr k) e more =
          let is : r.value ≡ record { items = before; begun = true; inserted = k.1.first } = k.1.in_back.1 in
          let fits = attachment_fits from role false k.1.first k.1.front k.1.in_front.0 (no_mark role) in
          let x = attached n r.between t r.back r.value all (ap (λ (x : Listed A). x.begun) is) (subst (λ (x : Listed A). MarkFits role x.inserted) (sym is) fits) r.others in
          let state : t ≡ s = x.2 ∙ k.1.in_back.2 ∙ k.1.in_front.1 ∙ e in
          record {
            more = [];
            are = x.0 ∙ ap (λ (x : Listed A). x.items) is ∙ sym (append-nil before);
            back = ending state (subst (λ l. Returns text last (listed text role other (so_far before)) (inserted_pieces all.inserted) (all_of l all.inserted) s s) (sym (append-nil before)) (end_back role before all.inserted x.1));
          }

  pub listed_back : (s t : Locals) (tokens : List Token) (before : List A) (all : Listed A) → (listed from role item (so_far before)).means s tokens all t → ListedBack before all.items all.inserted s t
  listed_back s t tokens before all r = items_back r.0 s t tokens before all r.1
