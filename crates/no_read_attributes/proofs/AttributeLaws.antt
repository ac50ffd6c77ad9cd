-- The laws of attributes.
use Rattle.std.proofs.Common.{◌≡◌, ℕ, ◌<◌, Bool, true, false, ◌||◌, List, [], ◌∷◌, ◌++◌, length, codes, Option, Some, None, Result, Ok, Err, refl, sym, ap, subst, ◌∙◌, append_assoc, append-nil}
use Rattle.no_lex.specs.declared.token.Token.{Token}
use Rattle.no_lex.specs.declared.token.TokenKind.{TokenKind}
use Rattle.no_lex.specs.declared.token.TokenKind.TheVariants as kind
use Rattle.no_ir.specs.declared.function.Role.{Role}
use Rattle.no_read_rules.specs.declared.fault.Stop.{Stop}
use Rattle.no_read_rules.specs.declared.fault.Stop.TheVariants as stop
use Rattle.no_read_rules.specs.declared.fault.Stopped.{Stopped}
use Rattle.no_read_rules.specs.Repeated.{with_item, next_item, repeat_all}
use Rattle.no_read_rules.specs.Rules.{Rule, after, plain, done, ◌>>=◌, Fails, none, Good, IsSolid, Avoids}
use Rattle.no_read_rules.specs.Spelled.{spelled, is_kind, is_sign}
use Rattle.no_read_rules.proofs.Laws.{plain_good, plain_solid, done_good, then_good, follow_good, first_solid, if_next_good, if_next_solid}
use Rattle.no_read_attributes.specs.declared.attribute.Attribute.{Attribute}
use Rattle.no_read_attributes.specs.declared.attribute.Attribute.TheVariants as attribute
use Rattle.no_read_attributes.specs.declared.attribute.AttributeHead.{AttributeHead}
use Rattle.no_read_attributes.specs.declared.attribute.AttributeHead.TheVariants as head
use Rattle.no_read_attributes.specs.declared.marks.Mark.{Mark}
use Rattle.no_read_attributes.specs.Attributes.{alignment_of, begins_by, begins_attribute, goes_on, align_tail, value_tail, after_head, an_attribute, more_attribute, all_attributes, all_go_on, may_go_on, behind_attributes, skip_attributes, mark_of, listed, all_marks, attribute_marks}
use Rattle.no_read_attributes.specs.Ending.{Ends}
use Rattle.no_read_attributes.specs.Brackets.{bracketed}
use Rattle.no_read_attributes.proofs.BracketLaws.{bracketed_good, bracketed_solid}
use Rattle.no_read_attributes.proofs.EndLaws.{ends_done, ends_either, ends_then, ends_good, ahead_good, ahead_solid}
use Rattle.no_read_attributes.proofs.ManyLaws as many

align_good : (text : List ℕ) → Good none (align_tail text)
unfolding align_tail
align_good text = if_next_good none _ _ _ (then_good none _ _ (plain_good _) (λ n. done_good none tt)) (bracketed_good text (codes "(") (codes ")")) (first_solid _ _ (plain_solid _)) (bracketed_solid text (codes "(") (codes ")"))

align_solid : (text : List ℕ) → IsSolid (align_tail text)
unfolding align_tail
align_solid text = if_next_solid (is_kind kind.Integer) (plain (alignment_of text) >>= λ _. done tt) (bracketed text (codes "(") (codes ")"))
    (first_solid (plain (alignment_of text)) (λ _. done tt) (plain_solid (alignment_of text))) (bracketed_solid text (codes "(") (codes ")"))

value_good : (text : List ℕ) → Good none (value_tail text)
unfolding value_tail
value_good text = then_good none _ _ (plain_good _) (λ _. then_good none _ _ (plain_good _) (λ value. done_good none value))

value_solid : (text : List ℕ) → IsSolid (value_tail text)
unfolding value_tail
value_solid text = first_solid _ _ (plain_solid _)

head_ends : (text : List ℕ) (h : AttributeHead) → Ends (goes_on text) (after_head text h)
head_ends text head.Word = ends_either (goes_on text) _ attribute.Word
    (ends_then (goes_on text) _ _ (bracketed_good text (codes "(") (codes ")")) (λ _. ends_done (goes_on text) attribute.Closed (λ t. refl))) (first_solid _ _ (bracketed_solid text (codes "(") (codes ")")))
head_ends text head.Align = ends_either (goes_on text) _ attribute.Align
    (ends_then (goes_on text) _ _ (align_good text) (λ _. ends_done (goes_on text) attribute.Closed (λ t. refl))) (first_solid _ _ (align_solid text))
head_ends text (head.Text key) = ends_either (goes_on text) _ (attribute.Text key)
    (ends_then (goes_on text) _ _ (value_good text) (λ value. ends_done (goes_on text) (attribute.Pair key value) (λ t. refl))) (first_solid _ _ (value_solid text))
head_ends text (head.Group group) = ends_done (goes_on text) (attribute.Group group) (λ t. refl)

attribute_ends : (text : List ℕ) → Ends (goes_on text) (an_attribute text)
unfolding an_attribute
attribute_ends text = ends_then (goes_on text) _ _ (plain_good _) (head_ends text)

attribute_solid : (text : List ℕ) → IsSolid (an_attribute text)
unfolding an_attribute
attribute_solid text = first_solid _ _ (plain_solid _)

-- an attribute begins with no sign and no number
begun : (text : List ℕ) (t : Token) → begins_attribute text t ≡ true → (is_kind kind.Sign t ≡ false) × (is_kind kind.Integer t ≡ false)
begun text t is = by t.kind is
  where
    by : (k : TokenKind) → begins_by k (spelled text t) ≡ true → (is_kind kind.Sign (record { kind = k; start = t.start; end = t.end }) ≡ false) × (is_kind kind.Integer (record { kind = k; start = t.start; end = t.end }) ≡ false)
    by kind.Word is = (refl, refl)
    by kind.Integer is = absurd cc
    by kind.Global is = (refl, refl)
    by kind.Local is = (refl, refl)
    by kind.Group is = (refl, refl)
    by kind.Meta is = (refl, refl)
    by kind.Quoted is = (refl, refl)
    by kind.CMark is = (refl, refl)
    by kind.Sign is = absurd cc
    by kind.Label is = (refl, refl)

apart : (text : List ℕ) (a : Attribute) (t : Token) → begins_attribute text t ≡ true → goes_on text a t ≡ false
apart text attribute.Word t is = rw ((begun text t is).0) refl
apart text attribute.Align t is = rw ((begun text t is).0, (begun text t is).1) refl
apart text attribute.Closed t is = refl
apart text (attribute.Text key) t is = rw ((begun text t is).0) refl
apart text (attribute.Pair key value) t is = refl
apart text (attribute.Group group) t is = refl

pub all_ends : (text : List ℕ) → Ends (all_go_on text) (all_attributes text)
all_ends text = many.many_ends (begins_attribute text) (goes_on text) (an_attribute text) (attribute_ends text) (attribute_solid text) (apart text)

go_less : (text : List ℕ) (a : Attribute) (t : Token) → may_go_on text t ≡ false → (begins_attribute text t ≡ false) × (goes_on text a t ≡ false)
go_less text a t out = by (begins_attribute text t) (is_kind kind.Integer t) (is_sign text (codes "(") t) (is_sign text (codes "=") t) refl refl refl refl out a
  where
    by : (b c d e : Bool) → begins_attribute text t ≡ b → is_kind kind.Integer t ≡ c → is_sign text (codes "(") t ≡ d → is_sign text (codes "=") t ≡ e → (b || c || d || e) ≡ false → (a : Attribute)
        → (begins_attribute text t ≡ false) × (goes_on text a t ≡ false)
    by true c d e eb ec ed ee out a = absurd cc
    by false true d e eb ec ed ee out a = absurd cc
    by false false true e eb ec ed ee out a = absurd cc
    by false false false true eb ec ed ee out a = absurd cc
    by false false false false eb ec ed ee out attribute.Word = (eb, ed)
    by false false false false eb ec ed ee out attribute.Align = (eb, rw (ec, ed) refl)
    by false false false false eb ec ed ee out attribute.Closed = (eb, refl)
    by false false false false eb ec ed ee out (attribute.Text key) = (eb, ee)
    by false false false false eb ec ed ee out (attribute.Pair key value) = (eb, refl)
    by false false false false eb ec ed ee out (attribute.Group group) = (eb, refl)

list_less : (text : List ℕ) (all : List Attribute) (t : Token) → may_go_on text t ≡ false → all_go_on text all t ≡ false
list_less text [] t out = (go_less text attribute.Closed t out).0
list_less text (a ∷ []) t out = let k = go_less text a t out in rw (k.0, k.1) refl
list_less text (a ∷ b ∷ all) t out = list_less text (b ∷ all) t out

pub all_good : (text : List ℕ) → Good (may_go_on text) (all_attributes text)
all_good text = ends_good (all_go_on text) (may_go_on text) (all_attributes text) (all_ends text) (list_less text)

mapped : {B : Type 0} (text : List ℕ) (f : List Attribute → B) → Good (may_go_on text) (all_attributes text >>= λ all. done (f all))
mapped text f = follow_good (may_go_on text) (may_go_on text) (all_attributes text) (λ all. done (f all)) (all_good text) (λ all. done_good (may_go_on text) (f all))
    (λ a s t used rest b m out. subst (λ (l : List Token). Avoids (may_go_on text) (l ++ rest)) (sym m.0) out)

pub skip_good : (text : List ℕ) → Good (may_go_on text) (skip_attributes text)
skip_good text = mapped text (λ all. tt)

pub marks_good : (text : List ℕ) (role : Role) → Good (may_go_on text) (attribute_marks text role)
marks_good text role = mapped text (all_marks text role)

pub behind_good : {A : Type 0} (text : List ℕ) (g : Token → Bool) (p : Rule (Unit {0}) A) → Good g p → IsSolid p → Good g (behind_attributes text p)
behind_good text g p l solid = ahead_good (all_go_on text) g (all_attributes text) (λ all. p) (all_ends text) (λ all. l) (λ all. solid)

pub behind_solid : {A : Type 0} (text : List ℕ) (p : Rule (Unit {0}) A) → IsSolid p → IsSolid (behind_attributes text p)
behind_solid text p solid = ahead_solid (all_go_on text) (all_attributes text) (λ all. p) (λ all. solid)

-- ---- loops over attributes

module _ {B C : Type 0} (text : List ℕ) (h : B → List Attribute → C) where
  abbrev ended : B → Result (List Attribute × Unit {0} × List Token) Stopped → Result (C × Unit {0} × List Token) Stopped
  ended acc r = after r (λ x. Ok (h acc x.0, x.1, x.2))

  abbrev rest_of : List Token → Result (List Attribute × Unit {0} × List Token) Stopped
  rest_of tokens = repeat_all (more_attribute text) tt tokens

  one_on : (tokens : List Token) → rest_of tokens ≡ after ((more_attribute text).read tt tokens) (next_item (repeat_all (more_attribute text)))
  one_on tokens = many.many_is (begins_attribute text) (goes_on text) (an_attribute text) (attribute_ends text) (attribute_solid text) (apart text) tt tokens

  ended_fail : (e : Stop) (acc : B) (tokens : List Token) (total : Result (C × Unit {0} × List Token) Stopped) → Fails e ((more_attribute text).read tt tokens) → ended acc (rest_of tokens) ≡ total → Fails e total
  ended_fail stop.NoMemory acc tokens total f so_far = tt
  ended_fail (stop.Fault d) acc tokens total f so_far = sym so_far ∙ (rw (one_on tokens, f) refl)

  ended_stop : (acc : B) (tokens rest : List Token) (o : Option Attribute) (total : Result (C × Unit {0} × List Token) Stopped) → (more_attribute text).read tt tokens ≡ Ok (o, tt, rest) → o ≡ None
      → ended acc (rest_of tokens) ≡ total → total ≡ Ok (h acc [], tt, rest)
  ended_stop acc tokens rest o total e is so_far = sym so_far ∙ (rw (one_on tokens, e, is) refl)

  ended_go : (acc next : B) (tokens aft : List Token) (o : Option Attribute) (a : Attribute) (total : Result (C × Unit {0} × List Token) Stopped) → (more_attribute text).read tt tokens ≡ Ok (o, tt, aft) → o ≡ Some a
      → ((others : List Attribute) → h acc (a ∷ others) ≡ h next others) → ended acc (rest_of tokens) ≡ total → ended next (rest_of aft) ≡ total
  ended_go acc next tokens aft o a total e is same so_far =
      let one : ended acc (rest_of tokens) ≡ ended next (rest_of aft) = rw (one_on tokens, e, is) (by (rest_of aft)) in
      sym one ∙ so_far
    where
      by : (r : Result (List Attribute × Unit {0} × List Token) Stopped) → ended acc (after r (with_item a)) ≡ ended next r
      by (Ok x) = rw (same x.0) refl
      by (Err d) = refl

pub falls : (text : List ℕ) (tokens rest : List Token) (o : Option Attribute) (a : Attribute) → (more_attribute text).read tt tokens ≡ Ok (o, tt, rest) → o ≡ Some a → length rest < length tokens
falls text tokens rest o a e is = many.takes (begins_attribute text) (goes_on text) (an_attribute text) (attribute_ends text) (attribute_solid text) (apart text) tt tt tokens rest a (e ∙ ap (λ (o : Option Attribute). Ok (o, tt, rest)) is)

-- skipped

abbrev pub skipped_from : List ℕ → List Token → Result (Unit {0} × Unit {0} × List Token) Stopped
skipped_from text tokens = after (repeat_all (more_attribute text) tt tokens) (λ x. Ok (tt, x.1, x.2))

abbrev none_kept : Unit {0} → List Attribute → Unit {0}
none_kept acc all = tt

pub skip_fail : (text : List ℕ) (e : Stop) (tokens : List Token) (total : Result (Unit {0} × Unit {0} × List Token) Stopped) → Fails e ((more_attribute text).read tt tokens) → skipped_from text tokens ≡ total → Fails e total
skip_fail text e tokens total f so_far = ended_fail text none_kept e tt tokens total f so_far

pub skip_stop : (text : List ℕ) (tokens rest : List Token) (o : Option Attribute) (total : Result (Unit {0} × Unit {0} × List Token) Stopped) → (more_attribute text).read tt tokens ≡ Ok (o, tt, rest) → o ≡ None
    → skipped_from text tokens ≡ total → total ≡ Ok (tt, tt, rest)
skip_stop text tokens rest o total e is so_far = ended_stop text none_kept tt tokens rest o total e is so_far

pub skip_go : (text : List ℕ) (tokens aft : List Token) (o : Option Attribute) (a : Attribute) (total : Result (Unit {0} × Unit {0} × List Token) Stopped) → (more_attribute text).read tt tokens ≡ Ok (o, tt, aft) → o ≡ Some a
    → skipped_from text tokens ≡ total → skipped_from text aft ≡ total
skip_go text tokens aft o a total e is so_far = ended_go text none_kept tt tt tokens aft o a total e is (λ others. refl) so_far

-- with those that have an effect

abbrev pub marked_from : List ℕ → Role → List Mark → List Token → Result (List Mark × Unit {0} × List Token) Stopped
marked_from text role front tokens = after (repeat_all (more_attribute text) tt tokens) (λ x. Ok (front ++ all_marks text role x.0, x.1, x.2))

abbrev kept : List ℕ → Role → List Mark → List Attribute → List Mark
kept text role front all = front ++ all_marks text role all

pub marks_fail : (text : List ℕ) (role : Role) (e : Stop) (front : List Mark) (tokens : List Token) (total : Result (List Mark × Unit {0} × List Token) Stopped) → Fails e ((more_attribute text).read tt tokens) → marked_from text role front tokens ≡ total → Fails e total
marks_fail text role e front tokens total f so_far = ended_fail text (kept text role) e front tokens total f so_far

pub marks_stop : (text : List ℕ) (role : Role) (front : List Mark) (tokens rest : List Token) (o : Option Attribute) (total : Result (List Mark × Unit {0} × List Token) Stopped) → (more_attribute text).read tt tokens ≡ Ok (o, tt, rest) → o ≡ None
    → marked_from text role front tokens ≡ total → total ≡ Ok (front, tt, rest)
marks_stop text role front tokens rest o total e is so_far = ended_stop text (kept text role) front tokens rest o total e is so_far ∙ (rw (append-nil front) refl)

pub marks_go : (text : List ℕ) (role : Role) (front next : List Mark) (tokens aft : List Token) (o : Option Attribute) (a : Attribute) (total : Result (List Mark × Unit {0} × List Token) Stopped) → (more_attribute text).read tt tokens ≡ Ok (o, tt, aft) → o ≡ Some a
    → next ≡ front ++ listed (mark_of text role a) → marked_from text role front tokens ≡ total → marked_from text role next aft ≡ total
marks_go text role front next tokens aft o a total e is more so_far =
    ended_go text (kept text role) front next tokens aft o a total e is (λ others. rw more (sym (append_assoc front (listed (mark_of text role a)) (all_marks text role others)))) so_far
