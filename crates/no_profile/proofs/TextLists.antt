-- Lines that are read one after another.
use Rattle.std.proofs.Common.{◌≡◌, ℕ, ◌+◌, ◌<◌, ◌≤◌, List, [], ◌∷◌, ◌++◌, length, drop, get_or, Option, Some, None, option_map, option_and_then, refl, sym, ap, ◌∙◌, append_assoc}
use Rattle.std.proofs.lemmas.List.{append-nil, drop_all, drop_more}
use Rattle.serde_json.specs.View.{view, items_view}
use Rattle.serde_json.specs.declared.value.Value.{Value}
use Rattle.no_profile.specs.Reading.{line_in, lines_of}
use Rattle.no_profile.specs.declared.profile.Line.{Line}

-- lines, and those that are read behind them
abbrev pub behind : List Line → Option (List Line) → Option (List Line)
behind front more = option_map (λ (lines : List Line). front ++ lines) more

behind_one : (front : List Line) (l : Line) (more : Option (List Line)) → behind front (option_map (λ lines. l ∷ lines) more) ≡ behind (front ++ l ∷ []) more
behind_one front l (Some lines) = ap Some (sym (append_assoc front (l ∷ []) lines))
behind_one front l None = refl

pub begins : (more : Option (List Line)) → behind [] more ≡ more
begins (Some lines) = refl
begins None = refl

module _ (values : List Value) (i : ℕ) (v : Value) (within : i < length values) (is : v ≡ get_or values i v) where
  next : drop i values ≡ v ∷ drop (i + 1) values
  next = drop_more values i v within ∙ ap (λ (x : Value). x ∷ drop (i + 1) values) (sym is)

  pub goes_on : (front new : List Line) (l : Line) (all : Option (List Line)) → line_in (view v) ≡ Some l → new ≡ front ++ l ∷ [] → behind front (lines_of (items_view (drop i values))) ≡ all
      → behind new (lines_of (items_view (drop (i + 1) values))) ≡ all
  goes_on front new l all e en so =
      let rest : Option (List Line) = lines_of (items_view (drop (i + 1) values)) in
      ap (λ (f : List Line). behind f rest) en ∙ sym (behind_one front l rest)
      ∙ ap (λ (o : Option Line). behind front (option_and_then (λ l. option_map (λ lines. l ∷ lines) rest) o)) (sym e)
      ∙ ap (λ (vs : List Value). behind front (lines_of (items_view vs))) (sym next) ∙ so

  pub stops : (front : List Line) (all : Option (List Line)) → line_in (view v) ≡ None → behind front (lines_of (items_view (drop i values))) ≡ all → None ≡ all
  stops front all e so =
      let rest : Option (List Line) = lines_of (items_view (drop (i + 1) values)) in
      ap (λ (o : Option Line). behind front (option_and_then (λ l. option_map (λ lines. l ∷ lines) rest) o)) (sym e)
      ∙ ap (λ (vs : List Value). behind front (lines_of (items_view vs))) (sym next) ∙ so

pub ends : (values : List Value) (i : ℕ) (front : List Line) (all : Option (List Line)) → length values ≤ i → behind front (lines_of (items_view (drop i values))) ≡ all → Some front ≡ all
ends values i front all past so =
    ap Some (sym (append-nil front)) ∙ ap (λ (vs : List Value). behind front (lines_of (items_view vs))) (sym (drop_all i values past)) ∙ so
