-- What is written of a profile is read as that profile.
use Rattle.std.proofs.Common.{◌≡◌, ℕ, ◌+◌, ◌<◌, ◌≤◌, Bool, false, ◌||◌, List, [], ◌∷◌, ◌++◌, length, map, take, get_or, Option, Some, None, option_map, option_and_then, if◌then◌else◌, Ok, refl, sym, ap, ◌∙◌, subst, arith}
use Rattle.std.proofs.lemmas.Bool.{le-leb}
use Rattle.std.proofs.lemmas.List.{map-append}
use Rattle.std.proofs.lemmas.List.Elements.{All-append, All-from_recursion, recursion_from_All}
use Rattle.std.specs.List.{All, AllByRecursion}
use Rattle.std.specs.Str.{IsUtf8}
use Rattle.serde_json.specs.Data.{Data, depth, items_depth}
use Rattle.serde_json.specs.Read.{max_depth, read}
use Rattle.serde_json.specs.View.{view}
use Rattle.serde_json.specs.Written.{compact_text, has_float, items_have_float}
use Rattle.serde_json.specs.declared.value.Value.{Value}
use Rattle.no_names.specs.Spelled.{name_by}
use Rattle.no_print.specs.Names.{spelling}
use Rattle.no_profile.proofs.Numbering.{next_taken}
use Rattle.no_profile.specs.Ranges.{AreInRange, IsInRange, IsRanged, MOST_PAGES, MOST_STEPS}
use Rattle.no_profile.specs.Reading.{MOST_BYTES, Reads, judged, judged_members, line_in, line_with, lines_of, up_to}
use Rattle.no_profile.specs.Texts.{IsAgain, line_data, lines_data, profile_data, profile_members, text_of}
use Rattle.no_profile.specs.declared.profile.Line.{Line}
use Rattle.no_profile.specs.declared.profile.Profile.{Profile}

-- ---- one line more

module _ (lines : List Line) (i : ℕ) (l : Line) (within : i < length lines) (is : l ≡ get_or lines i l) where
  pub values_more : (values new : List Value) (v : Value) → new ≡ values ++ v ∷ [] → view v ≡ line_data l → map view values ≡ map line_data (take i lines) → map view new ≡ map line_data (take (i + 1) lines)
  values_more values new v en ev so =
      ap (map view) en ∙ map-append view values (v ∷ []) ∙ ap (λ (ds : List Data). ds ++ view v ∷ []) so ∙ ap (λ (d : Data). map line_data (take i lines) ++ d ∷ []) ev
      ∙ sym (map-append line_data (take i lines) (l ∷ [])) ∙ ap (map line_data) (sym (next_taken lines i l within is))

  pub again_more : IsAgain l → All IsAgain (take i lines) → All IsAgain (take (i + 1) lines)
  again_more one so = subst (All IsAgain) (sym (next_taken lines i l within is)) (All-append IsAgain (take i lines) (l ∷ []) so (All-from_recursion IsAgain (l ∷ []) (one, tt)))

-- ---- the text

no_float_lines : (lines : List Line) → items_have_float (lines_data lines) ≡ false
no_float_lines [] = refl
no_float_lines (l ∷ lines) = no_float_lines lines

no_float : (p : Profile) → has_float (profile_data p) ≡ false
no_float p = ap (λ (b : Bool). b || false) (no_float_lines p.lines)

pub text_is : (p : Profile) (d : Data) (text : List ℕ) → d ≡ profile_data p → (has_float d ≡ false → text ≡ compact_text d) → text ≡ text_of p
unfolding text_of
text_is p d text e h = h (ap has_float e ∙ no_float p) ∙ ap compact_text e

-- ---- read again

up_again : (most n : ℕ) → n ≤ most → up_to most n ≡ Some n
up_again most n h = ap (λ (b : Bool). if b then Some n else None) (le-leb n most h)

line_again : (l : Line) → IsInRange l → IsAgain l → line_in (line_data l) ≡ Some l
line_again l h a =
    let calls = up_again MOST_STEPS l.calls h.calls in
    let pages = up_again MOST_PAGES l.pages h.pages in
    let steps = up_again MOST_STEPS l.steps h.steps in
    ap (λ (c : Option ℕ). line_with c (name_by (spelling l.name)) (up_to MOST_PAGES l.pages) (up_to MOST_STEPS l.steps)) calls
    ∙ ap (λ (n : Option (List ℕ)). line_with (Some l.calls) n (up_to MOST_PAGES l.pages) (up_to MOST_STEPS l.steps)) a
    ∙ ap (λ (g : Option ℕ). line_with (Some l.calls) (Some l.name) g (up_to MOST_STEPS l.steps)) pages
    ∙ ap (λ (s : Option ℕ). line_with (Some l.calls) (Some l.name) (Some l.pages) s) steps

lines_again : (lines : List Line) → AreInRange lines → AllByRecursion IsAgain lines → lines_of (lines_data lines) ≡ Some lines
lines_again [] h a = refl
lines_again (l ∷ lines) h a =
    ap (option_and_then (λ (x : Line). option_map (λ (more : List Line). x ∷ more) (lines_of (lines_data lines)))) (line_again l h.0 a.0)
    ∙ ap (option_map (λ (more : List Line). l ∷ more)) (lines_again lines h.1 a.1)

judged_again : (p : Profile) → IsRanged p → All IsAgain p.lines → judged (profile_members p) ≡ Ok p
judged_again p h a =
    ap (λ (lines : Option (List Line)). judged_members lines (up_to MOST_STEPS p.steps) (profile_members p)) (lines_again p.lines h.lines (recursion_from_All IsAgain p.lines a))
    ∙ ap (λ (steps : Option ℕ). judged_members (Some p.lines) steps (profile_members p)) (up_again MOST_STEPS p.steps h.steps)

flat_lines : (lines : List Line) → items_depth (lines_data lines) ≤ 1
flat_lines [] = omega arith
flat_lines (l ∷ lines) = let more : items_depth (lines_data lines) ≤ 1 = flat_lines lines in omega arith

flat : (p : Profile) → depth (profile_data p) ≤ max_depth
flat p = let lines : items_depth (lines_data p.lines) ≤ 1 = flat_lines p.lines in omega arith

pub reads_again : (p : Profile) (d : Data) (text : List ℕ) → IsRanged p → All IsAgain p.lines → d ≡ profile_data p → IsUtf8 text → (depth d ≤ max_depth → read text ≡ Some d) → length text ≤ MOST_BYTES → Reads text (Ok p)
reads_again p d text h a e utf8 back short =
    let deep : depth d ≤ max_depth = subst (λ (x : Data). depth x ≤ max_depth) (sym e) (flat p) in
    (short, profile_members p, (utf8, back deep ∙ ap Some e), judged_again p h a)
