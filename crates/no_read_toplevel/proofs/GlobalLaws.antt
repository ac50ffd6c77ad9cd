-- The laws of global variables, and the loop over what stands behind one.
use Rattle.std.proofs.Common.{◌≡◌, ℕ, ◌<◌, Bool, true, false, List, [], ◌∷◌, ◌++◌, length, codes, Option, Some, None, Result, Ok, Err, refl, sym, ap, subst, ◌∙◌}
use Rattle.no_lex.specs.declared.token.Token.{Token}
use Rattle.no_ir.specs.declared.function.GlobalVar.{GlobalVar}
use Rattle.no_read_rules.specs.declared.fault.Stop.{Stop}
use Rattle.no_read_rules.specs.declared.fault.Stop.TheVariants as stop
use Rattle.no_read_rules.specs.declared.fault.Stopped.{Stopped}
use Rattle.no_read_rules.specs.Repeated.{with_item, next_item, repeat_all, repeat}
use Rattle.no_read_rules.specs.Rules.{Rule, after, plain, done, ◌>>=◌, Avoids, Fails, none, Good, IsSolid}
use Rattle.no_read_rules.specs.Scope.{Meaning}
use Rattle.no_read_rules.specs.Types.{a_type}
use Rattle.no_read_rules.specs.Spelled.{a_sign}
use Rattle.no_read_rules.proofs.Laws.{once, plain_good, plain_solid, done_good, then_good, follow_good, first_solid}
use Rattle.no_read_rules.proofs.TypeLaws.{type_good}
use Rattle.no_read_constants.specs.Constants.{a_const}
use Rattle.no_read_constants.proofs.ConstLaws.{const_good}
use Rattle.no_read_constants.proofs.PlaceLaws.{behind_good}
use Rattle.no_read_attributes.specs.Ending.{Ends, list_goes_on}
use Rattle.no_read_attributes.proofs.EndLaws.{done_apart, ends_done, ends_then, ends_good}
use Rattle.no_read_attributes.proofs.ManyLaws as many
use Rattle.no_read_toplevel.specs.declared.globals.TailHead.{TailHead}
use Rattle.no_read_toplevel.specs.declared.globals.TailHead.TheVariants.{Align, Section, Attachment}
use Rattle.no_read_toplevel.specs.Globals.{is_idle, constant_of, after_tail_head, a_tail, is_comma, more_tail, latest, last_of, tails, a_global}
use Rattle.no_read_attributes.specs.Symbols.{symbol_name}

-- a tail ends by itself
abbrev never : Option ℕ → Token → Bool
never a t = false

head_ends : (text : List ℕ) (h : TailHead) → Ends never (after_tail_head text h)
head_ends text Align = ends_then never _ _ (plain_good _) (λ n. ends_done never (Some n) (λ t. refl))
head_ends text Section = ends_then never _ _ (plain_good _) (λ _. ends_done never None (λ t. refl))
head_ends text Attachment = ends_then never _ _ (plain_good _) (λ _. ends_done never None (λ t. refl))

head_good : (text : List ℕ) (h : TailHead) → Good none (after_tail_head text h)
head_good text h = ends_good never none (after_tail_head text h) (head_ends text h) (λ a t out. refl)

tail_ends : (text : List ℕ) → Ends never (a_tail text)
unfolding a_tail
tail_ends text = ends_then never _ _ (plain_good _) (λ _. ends_then never _ _ (plain_good _) (λ head. ends_then never _ _ (head_good text head) (λ align. ends_done never align (λ t. refl))))

tail_solid : (text : List ℕ) → IsSolid (a_tail text)
unfolding a_tail
tail_solid text = first_solid _ _ (plain_solid _)

apart : (text : List ℕ) (a : Option ℕ) (t : Token) → is_comma text t ≡ true → never a t ≡ false
apart text a t is = refl

all_ends : (text : List ℕ) → Ends (list_goes_on (is_comma text) never) (repeat (more_tail text))
all_ends text = many.many_ends (is_comma text) never (a_tail text) (tail_ends text) (tail_solid text) (apart text)

comma_less : (text : List ℕ) (all : List (Option ℕ)) (t : Token) → is_comma text t ≡ false → list_goes_on (is_comma text) never all t ≡ false
comma_less text [] t out = out
comma_less text (a ∷ []) t out = rw out refl
comma_less text (a ∷ b ∷ all) t out = comma_less text (b ∷ all) t out

all_good : (text : List ℕ) → Good (is_comma text) (repeat (more_tail text))
all_good text = ends_good (list_goes_on (is_comma text) never) (is_comma text) (repeat (more_tail text)) (all_ends text) (comma_less text)

pub tails_good : (text : List ℕ) → Good (is_comma text) (tails text)
tails_good text = follow_good (is_comma text) (is_comma text) (repeat (more_tail text)) (λ all. done (last_of None all)) (all_good text) (λ all. done_good (is_comma text) (last_of None all))
    (λ all s t used rest b m out. done_apart (is_comma text) (last_of None all) s t used rest b m out)

global_good : (m : Meaning) → Good (is_comma m.text) (a_global m)
unfolding a_global
global_good m = then_good (is_comma m.text) _ _ (plain_good _) (λ name. then_good (is_comma m.text) _ _ (plain_good _) (λ _.
    then_good (is_comma m.text) _ _ (behind_good (is_idle m.text) (plain (constant_of m.text)) none (plain_good (constant_of m.text)) (plain_solid (constant_of m.text))) (λ constant.
    then_good (is_comma m.text) _ _ (type_good m 64) (λ ty. then_good (is_comma m.text) _ _ (const_good m 64 ty) (λ init.
    follow_good (is_comma m.text) (is_comma m.text) (tails m.text) (λ align. done (record { name = name; constant = constant; ty = ty; init = init; align = align })) (tails_good m.text) (λ align. done_good (is_comma m.text) _)
    (λ align s t used rest b k out. done_apart (is_comma m.text) _ s t used rest b k out))))))

pub a_global_good : (m : Meaning) → Good (is_comma m.text) (a_global m)
a_global_good m = global_good m

pub global_solid : (m : Meaning) → IsSolid (a_global m)
unfolding a_global
global_solid m = first_solid _ _ (plain_solid _)

pub one_global : (m : Meaning) (tokens : List Token) (a b : GlobalVar) → (a_global m).means tt tokens a tt → (a_global m).means tt tokens b tt → a ≡ b
one_global m tokens a b x y = once (is_comma m.text) (a_global m) (global_good m) tt tt tt tokens a b x y

-- ---- the loop over tails

abbrev pub ended : Option ℕ → Result (List (Option ℕ) × Unit {0} × List Token) Stopped → Result (Option ℕ × Unit {0} × List Token) Stopped
ended found r = after r (λ x. Ok (last_of found x.0, x.1, x.2))

abbrev pub tails_from : List ℕ → Option ℕ → List Token → Result (Option ℕ × Unit {0} × List Token) Stopped
tails_from text found tokens = ended found (repeat_all (more_tail text) tt tokens)

module _ (text : List ℕ) where
  one_on : (tokens : List Token) → repeat_all (more_tail text) tt tokens ≡ after ((more_tail text).read tt tokens) (next_item (repeat_all (more_tail text)))
  one_on tokens = many.many_is (is_comma text) never (a_tail text) (tail_ends text) (tail_solid text) (apart text) tt tokens

  pub tails_fail : (e : Stop) (found : Option ℕ) (tokens : List Token) (total : Result (Option ℕ × Unit {0} × List Token) Stopped) → Fails e ((more_tail text).read tt tokens) → tails_from text found tokens ≡ total → Fails e total
  tails_fail stop.NoMemory found tokens total f so_far = tt
  tails_fail (stop.Fault d) found tokens total f so_far = sym so_far ∙ (rw (one_on tokens, f) refl)

  pub tails_stop : (found : Option ℕ) (tokens rest : List Token) (o : Option (Option ℕ)) (total : Result (Option ℕ × Unit {0} × List Token) Stopped) → (more_tail text).read tt tokens ≡ Ok (o, tt, rest) → o ≡ None
      → tails_from text found tokens ≡ total → total ≡ Ok (found, tt, rest)
  tails_stop found tokens rest o total e is so_far = sym so_far ∙ (rw (one_on tokens, e, is) refl)

  tails_on : (found : Option ℕ) (tokens aft : List Token) (o : Option (Option ℕ)) (a : Option ℕ) (total : Result (Option ℕ × Unit {0} × List Token) Stopped) → (more_tail text).read tt tokens ≡ Ok (o, tt, aft) → o ≡ Some a
      → tails_from text found tokens ≡ total → tails_from text (latest found a) aft ≡ total
  tails_on found tokens aft o a total e is so_far =
      let one : tails_from text found tokens ≡ tails_from text (latest found a) aft = rw (one_on tokens, e, is) (by a (repeat_all (more_tail text) tt aft)) in
      sym one ∙ so_far
    where
      by : (a : Option ℕ) (r : Result (List (Option ℕ) × Unit {0} × List Token) Stopped) → ended found (after r (with_item a)) ≡ ended (latest found a) r
      by a (Ok x) = refl
      by a (Err d) = refl

  pub tails_go : (found next : Option ℕ) (tokens aft : List Token) (o : Option (Option ℕ)) (a : Option ℕ) (total : Result (Option ℕ × Unit {0} × List Token) Stopped) → (more_tail text).read tt tokens ≡ Ok (o, tt, aft) → o ≡ Some a
      → next ≡ latest found a → tails_from text found tokens ≡ total → tails_from text next aft ≡ total
  tails_go found next tokens aft o a total e is same so_far = rw same (tails_on found tokens aft o a total e is so_far)

  pub tails_fall : (tokens rest : List Token) (o : Option (Option ℕ)) (a : Option ℕ) → (more_tail text).read tt tokens ≡ Ok (o, tt, rest) → o ≡ Some a → length rest < length tokens
  tails_fall tokens rest o a e is = many.takes (is_comma text) never (a_tail text) (tail_ends text) (tail_solid text) (apart text) tt tt tokens rest a (e ∙ ap (λ (o : Option (Option ℕ)). Ok (o, tt, rest)) is)
