-- What stays the same of a machine while it runs.
use Rattle.std.proofs.Common.{◌≡◌, ℕ, Bool, List, Option, refl, sym, ap, subst, ◌∙◌}
use Rattle.no_ir.specs.declared.ending.End.{End}
use Rattle.no_layout.specs.declared.memory.Regions.{Regions}
use Rattle.no_semantics.specs.Accepted.{Accepted}
use Rattle.no_machine.specs.Beginning.{Grows}
use Rattle.no_machine.specs.Ran.{IsMade, Stays}
use Rattle.no_machine.specs.Turning.{program_with}
use Rattle.no_machine.specs.declared.machine.Machine.{Machine}
use Rattle.no_machine.specs.declared.state.Core.{Core}

module _ {M : Type 0} where
  -- all but where it stands, what it counted and how it ended
  abbrev pub Rest : Machine M → Machine M → Type 0
  Rest old new = new ≡ record old { core = new.core; count = new.count; end = new.end }

  pub rest_then : (old mid new : Machine M) → Rest old mid → Rest mid new → Rest old new
  rest_then old mid new one two = two ∙ ap (λ (m : Machine M). record m { core = new.core; count = new.count; end = new.end }) one

  -- turns, what came from outside, and what was counted of it
  pub rest_spun : (old new : Machine M) (n : ℕ) → new ≡ record old { core = new.core; count = n } → Rest old new
  rest_spun old new n is =
      is ∙ ap (λ (k : ℕ). record old { core = new.core; count = k }) (sym (ap (λ (m : Machine M). m.count) is)) ∙ ap (λ (e : Option End). record old { core = new.core; count = new.count; end = e }) (sym (ap (λ (m : Machine M). m.end) is))

  pub rest_core : (old new : Machine M) → new ≡ record old { core = new.core } → Rest old new
  rest_core old new is =
      is ∙ ap (λ (k : ℕ). record old { core = new.core; count = k }) (sym (ap (λ (m : Machine M). m.count) is)) ∙ ap (λ (e : Option End). record old { core = new.core; count = new.count; end = e }) (sym (ap (λ (m : Machine M). m.end) is))

  pub rest_closed : (old new : Machine M) (n : ℕ) (e : Option End) → new ≡ record old { count = n; end = e } → Rest old new
  rest_closed old new n e is =
      is
      ∙ ap (λ (c : Core M). record old { core = c; count = n; end = e }) (sym (ap (λ (m : Machine M). m.core) is))
      ∙ ap (λ (k : ℕ). record old { core = new.core; count = k; end = e }) (sym (ap (λ (m : Machine M). m.count) is))
      ∙ ap (λ (x : Option End). record old { core = new.core; count = new.count; end = x }) (sym (ap (λ (m : Machine M). m.end) is))

  pub made_still : (a : Accepted) (old new : Machine M) → Rest old new → IsMade a old → IsMade a new
  made_still a old new rest made = subst (IsMade a) (sym rest) (record { facts = made.facts; outside = made.outside; pointed = made.pointed })

module _ {M : Type 0} (regions : M → Regions) (held : M → ℕ → Bool) where
  pub stays_by : (old new : Machine M) → Rest old new → regions new.core.mem ≡ regions old.core.mem → held new.core.mem ≡ held old.core.mem → Stays regions held old new
  stays_by old new rest same_regions same_pages = record {
    rest = rest;
    same_program = λ a. ap (λ (l : List ℕ). program_with a l (regions new.core.mem)) (ap (λ (m : Machine M). m.addresses) rest) ∙ ap (program_with a old.addresses) same_regions;
    same_addresses = ap (λ (m : Machine M). m.addresses) rest;
    same_regions = same_regions;
    same_pages = same_pages;
    budget = ap (λ (m : Machine M). m.budget) rest;
  }

  pub stays_here : (m : Machine M) → Stays regions held m m
  stays_here m = stays_by m m refl refl refl

  pub stays_then : (old mid new : Machine M) → Stays regions held old mid → Stays regions held mid new → Stays regions held old new
  stays_then old mid new one two = stays_by old new (rest_then old mid new one.rest two.rest) (two.same_regions ∙ one.same_regions) (two.same_pages ∙ one.same_pages)

  -- slots were added
  pub stays_wider : (old new : Machine M) → new ≡ record old { core = new.core } → Grows old.core new.core → Stays regions held old new
  stays_wider old new is grows =
      let mem : new.core.mem ≡ old.core.mem = ap (λ (c : Core M). c.mem) grows.same in
      stays_by old new (rest_core old new is) (ap regions mem) (ap held mem)
