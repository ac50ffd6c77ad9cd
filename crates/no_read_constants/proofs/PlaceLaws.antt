-- The laws of places.
use Rattle.std.proofs.Common.{◌≡◌, ◌<◌, ℕ, Bool, true, false, List, [], ◌∷◌, ◌++◌, ◌&&◌, length, codes, Option, Some, None, Result, Ok, if◌then◌else◌, refl, sym, ap, ◌∙◌, append_assoc, true≢false}
use Rattle.std.specs.Prelude.{ℤ}
use Rattle.std.specs.List.{list_all}
use Rattle.no_lex.specs.declared.token.Token.{Token}
use Rattle.no_read_rules.specs.declared.fault.Stop.{Stop}
use Rattle.no_read_rules.specs.declared.fault.Stopped.{Stopped}
use Rattle.no_read_rules.specs.Lists.{more_item}
use Rattle.no_read_rules.specs.Repeated.{repeat_all, with_front}
use Rattle.no_read_rules.specs.Rules.{Rule, Fails, next_is, Avoids, none, Good, IsSolid}
use Rattle.no_read_rules.specs.Scope.{Meaning}
use Rattle.no_read_rules.proofs.Laws.{avoids_none, plain_good, plain_solid, done_good, then_good, first_solid}
use Rattle.no_read_rules.proofs.ListLaws.{more_good, more_solid}
use Rattle.no_read_rules.proofs.Repeats.{repeat_good}
use Rattle.no_read_rules.proofs.Repeats as repeats
use Rattle.no_read_rules.proofs.TypeLaws.{type_good}
use Rattle.no_read_constants.specs.Places.{is_flag, an_index, indices, gep_parts, after_place_head, a_place}
use Rattle.no_read_constants.specs.Skipped.{skip_while, behind}
use Rattle.no_read_constants.specs.declared.places.PlaceHead.{PlaceHead}
use Rattle.no_read_constants.specs.declared.places.PlaceHead.TheVariants.{Bare, Gep}

-- ---- skipped words

record Skips (test : Token → Bool) (tokens : List Token) : Type 0 where
  pub front : List Token
  pub parts : tokens ≡ front ++ skip_while test tokens
  pub pass : list_all test front ≡ true
  pub stops : next_is test (skip_while test tokens) ≡ false

skips : (test : Token → Bool) (tokens : List Token) → Skips test tokens
skips test [] = record { front = []; parts = refl; pass = refl; stops = refl }
skips test (t ∷ ts) = by (test t) refl (skips test ts)
  where
    by : (b : Bool) → test t ≡ b → Skips test ts → Skips test (t ∷ ts)
    by true e s = record { front = t ∷ s.front; parts = rw e (ap (λ l. t ∷ l) s.parts); pass = rw e s.pass; stops = rw e s.stops }
    by false e s = record { front = []; parts = rw e refl; pass = refl; stops = rw e e }

skipped_is : (test : Token → Bool) (front back : List Token) → list_all test front ≡ true → next_is test back ≡ false → skip_while test (front ++ back) ≡ back
skipped_is test [] [] p s = refl
skipped_is test [] (b ∷ back) p s = rw s refl
skipped_is test (t ∷ front) back p s = by (test t) refl (skipped_is test front back)
  where
    by : (b : Bool) → test t ≡ b → (list_all test front ≡ true → next_is test back ≡ false → skip_while test (front ++ back) ≡ back) → (if test t then skip_while test (front ++ back) else t ∷ (front ++ back)) ≡ back
    by true e more = rw e (more (sym (ap (λ b. b && list_all test front) e) ∙ p) s)
    by false e more = absurd (true≢false (sym p ∙ ap (λ b. b && list_all test front) e))

module _ {S A : Type 0} (test : Token → Bool) (p : Rule S A) where
  pub behind_good : (g : Token → Bool) → Good g p → IsSolid p → Good g (behind test p)
  behind_good g l solid = record {
    found = λ s tokens x e. let k = skips test tokens in let f = l.found s (skip_while test tokens) x e in
        record {
          used = k.front ++ f.used;
          parts = k.parts ∙ ap (λ (r : List Token). k.front ++ r) f.parts ∙ sym (append_assoc k.front f.used x.2);
          meant = record { front = k.front; back = f.used; parts = refl; pass = k.pass; stops = head s x.1 x.0 f.used (skip_while test tokens) x.2 f.parts f.meant k.stops; read = f.meant };
        };
    only = λ s t used rest a m av. only s t used rest a m av;
  }
    where
      head : (s t : S) (a : A) (used tokens rest : List Token) → tokens ≡ used ++ rest → p.means s used a t → next_is test tokens ≡ false → next_is test used ≡ false
      head s t a [] tokens rest e m k = refl
      head s t a (u ∷ used) tokens rest e m k = ap (next_is test) (sym e) ∙ k

      more : (s t : S) (a : A) (back rest : List Token) → p.means s back a t → next_is test back ≡ false → next_is test (back ++ rest) ≡ false
      more s t a [] rest m k = absurd (solid s t a m)
      more s t a (b ∷ back) rest m k = k

      only : (s t : S) (used rest : List Token) (a : A) → (behind test p).means s used a t → Avoids g rest → p.read s (skip_while test (used ++ rest)) ≡ Ok (a, t, rest)
      only s t used rest a m av =
          let e : skip_while test (used ++ rest) ≡ m.back ++ rest = ap (λ (l : List Token). skip_while test (l ++ rest)) m.parts ∙ ap (skip_while test) (append_assoc m.front m.back rest) ∙ skipped_is test m.front (m.back ++ rest) m.pass (more s t a m.back rest m.read m.stops) in
          ap (p.read s) e ∙ l.only s t m.back rest a m.read av

  pub behind_solid : IsSolid p → IsSolid (behind test p)
  behind_solid solid s t a m = go m.front m.back m.parts m.read
    where
      go : (front back : List Token) → [] ≡ front ++ back → p.means s back a t → ⊥
      go [] [] e r = solid s t a r
      go [] (b ∷ back) e r = absurd cc
      go (f ∷ front) back e r = absurd cc

-- ---- places

index_good : (m : Meaning) → Good none (an_index m)
unfolding an_index
index_good m = then_good none _ _ (plain_good _) (λ width. then_good none _ _ (plain_good _) (λ number. done_good none _))

index_solid : (m : Meaning) → IsSolid (an_index m)
unfolding an_index
index_solid m = first_solid _ _ (plain_solid _)

indices_good : (m : Meaning) → Good none (indices m)
unfolding indices
indices_good m = then_good none _ _ (index_good m) (λ first. then_good none _ _
    (repeat_good none _ (more_good m.text (codes ")") (an_index m) (index_good m)) (more_solid m.text (codes ")") (an_index m)) (λ s t used o n. avoids_none used))
    (λ others. done_good none _))

gep_good : (m : Meaning) (depth : ℕ) → Good none (gep_parts m depth)
unfolding gep_parts
gep_good m depth = then_good none _ _ (plain_good _) (λ _. then_good none _ _ (type_good m depth) (λ base. then_good none _ _ (plain_good _) (λ _. then_good none _ _ (plain_good _) (λ _.
    then_good none _ _ (plain_good _) (λ symbol. then_good none _ _ (plain_good _) (λ _. then_good none _ _ (indices_good m) (λ steps. done_good none _)))))))

gep_solid : (m : Meaning) (depth : ℕ) → IsSolid (gep_parts m depth)
unfolding gep_parts
gep_solid m depth = first_solid _ _ (plain_solid _)

after_good : (m : Meaning) (depth : ℕ) (h : PlaceHead) → Good none (after_place_head m depth h)
after_good m depth (Bare symbol) = done_good none _
after_good m depth Gep = behind_good (is_flag m.text) (gep_parts m depth) none (gep_good m depth) (gep_solid m depth)

pub place_good : (m : Meaning) (depth : ℕ) → Good none (a_place m depth)
unfolding a_place
place_good m depth = then_good none _ _ (plain_good _) (after_good m depth)

pub place_solid : (m : Meaning) (depth : ℕ) → IsSolid (a_place m depth)
unfolding a_place
place_solid m depth = first_solid _ _ (plain_solid _)

-- ---- the loop over indices

module _ (m : Meaning) where
  abbrev step : Rule (Unit {0}) (Option ℤ)
  step = more_item m.text (codes ")") (an_index m)

  step_good : Good none step
  step_good = more_good m.text (codes ")") (an_index m) (index_good m)

  step_solid : IsSolid step
  step_solid = more_solid m.text (codes ")") (an_index m)

  pub indices_fail : (e : Stop) (front : List ℤ) (tokens : List Token) (total : Result (List ℤ × Unit {0} × List Token) Stopped) → Fails e (step.read tt tokens) → with_front front (repeat_all step tt tokens) ≡ total → Fails e total
  indices_fail e front tokens total f so_far = repeats.fails none step step_good step_solid e front tt tokens total f so_far

  pub indices_stop : (front : List ℤ) (tokens rest : List Token) (o : Option ℤ) (total : Result (List ℤ × Unit {0} × List Token) Stopped) → step.read tt tokens ≡ Ok (o, tt, rest) → o ≡ None
      → with_front front (repeat_all step tt tokens) ≡ total → total ≡ Ok (front, tt, rest)
  indices_stop front tokens rest o total e is so_far = repeats.stops none step step_good step_solid front tt tt tokens rest o total e is so_far

  pub indices_fall : (tokens rest : List Token) (o : Option ℤ) → step.read tt tokens ≡ Ok (o, tt, rest) → length rest < length tokens
  indices_fall tokens rest o e = repeats.shorter none step step_good step_solid tt tt tokens rest o e

  pub indices_go : (front : List ℤ) (tokens aft : List Token) (o : Option ℤ) (a : ℤ) (total : Result (List ℤ × Unit {0} × List Token) Stopped) → step.read tt tokens ≡ Ok (o, tt, aft) → o ≡ Some a
      → with_front front (repeat_all step tt tokens) ≡ total → with_front (front ++ a ∷ []) (repeat_all step tt aft) ≡ total
  indices_go front tokens aft o a total e is so_far = repeats.goes_on none step step_good step_solid front tt tt tokens aft o a total e is so_far
