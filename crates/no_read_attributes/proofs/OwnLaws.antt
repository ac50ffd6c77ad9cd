-- The laws of rules with a state of their own.
use Rattle.std.proofs.Common.{◌≡◌, Bool, List, Result, Ok, Err, refl, subst}
use Rattle.no_lex.specs.declared.token.Token.{Token}
use Rattle.no_read_rules.specs.declared.fault.Stopped.{Stopped}
use Rattle.no_read_rules.specs.Rules.{Rule, Found, Good, IsSolid}
use Rattle.no_read_rules.proofs.Laws.{from_ok}
use Rattle.no_read_attributes.specs.Own.{with_state, inside}

module _ {S T A : Type 0} (start : T) (p : Rule T A) where
  inside_found : (s : S) (tokens : List Token) (r : Result (A × T × List Token) Stopped) (x : (A × T) × S × List Token) → p.read start tokens ≡ r
      → ((y : A × T × List Token) → p.read start tokens ≡ Ok y → Found p start tokens y) → with_state s r ≡ Ok x → Found (inside start p) s tokens x
  inside_found s tokens (Ok y) x is found e = let f = found y is in subst (Found (inside start p) s tokens) (from_ok ((y.0, y.1), s, y.2) x e) (record { used = f.used; parts = f.parts; meant = (f.meant, refl) })
  inside_found s tokens (Err d) x is found e = absurd cc

  pub inside_good : (g : Token → Bool) → Good g p → Good {S = S} g (inside start p)
  inside_good g l = record {
    found = λ s tokens x e. inside_found s tokens (p.read start tokens) x refl (l.found start tokens) e;
    only = λ s t used rest a m av. rw (l.only start a.1 used rest a.0 m.0 av, m.1) refl;
  }

  pub inside_solid : IsSolid p → IsSolid {S = S} (inside start p)
  inside_solid l s t a m = l start a.1 a.0 m.0
