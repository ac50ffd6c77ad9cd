-- The laws of all forms of a text, and of the loop that reads them.
use Rattle.std.proofs.Common.{◌≡◌, ◌<◌, Bool, List, [], ◌∷◌, ◌++◌, length, Option, Some, None, Result, Ok}
use Rattle.no_lex.specs.declared.token.Token.{Token}
use Rattle.no_ir.specs.declared.function.Role.{Role}
use Rattle.no_read_rules.specs.declared.fault.Stopped.{Stopped}
use Rattle.no_read_rules.specs.declared.fault.Stop.{Stop}
use Rattle.no_read_rules.specs.Repeated.{repeat_all, with_front}
use Rattle.no_read_rules.specs.Rules.{Fails, Good}
use Rattle.no_read_rules.specs.Scope.{Meaning}
use Rattle.no_read_instructions.specs.Instructions.{instr_goes_on}
use Rattle.no_read_toplevel.specs.declared.tops.Top.{Top}
use Rattle.no_read_toplevel.specs.Tops.{begins_top, a_top, more_tops, tops}
use Rattle.no_read_toplevel.proofs.ManyTops as many
use Rattle.no_read_toplevel.proofs.TopForms.{top_good, top_solid, begins_apart}

module _ (m : Meaning) (role : Role) where
  abbrev Total : Type 0
  Total = Result (List Top × Bool × List Token) Stopped

  pub tops_good : Good (many.list_avoids (begins_top m.text) (instr_goes_on m.text) (a_top m role) (top_good m role) (top_solid m role) (begins_apart m.text)) (tops m role)
  tops_good = many.list_good (begins_top m.text) (instr_goes_on m.text) (a_top m role) (top_good m role) (top_solid m role) (begins_apart m.text)

  pub tops_go : (front : List Top) (s t : Bool) (tokens aft : List Token) (o : Option Top) (a : Top) (total : Total) → (more_tops m role).read s tokens ≡ Ok (o, t, aft) → o ≡ Some a
      → with_front front (repeat_all (more_tops m role) s tokens) ≡ total → with_front (front ++ a ∷ []) (repeat_all (more_tops m role) t aft) ≡ total
  tops_go = many.list_goes (begins_top m.text) (instr_goes_on m.text) (a_top m role) (top_good m role) (top_solid m role) (begins_apart m.text)

  pub tops_fail : (e : Stop) (front : List Top) (s : Bool) (tokens : List Token) (total : Total) → Fails e ((more_tops m role).read s tokens) → with_front front (repeat_all (more_tops m role) s tokens) ≡ total → Fails e total
  tops_fail = many.list_fails (begins_top m.text) (instr_goes_on m.text) (a_top m role) (top_good m role) (top_solid m role) (begins_apart m.text)

  pub tops_stop : (front : List Top) (s t : Bool) (tokens rest : List Token) (o : Option Top) (total : Total) → (more_tops m role).read s tokens ≡ Ok (o, t, rest) → o ≡ None
      → with_front front (repeat_all (more_tops m role) s tokens) ≡ total → total ≡ Ok (front, t, rest)
  tops_stop = many.list_stops (begins_top m.text) (instr_goes_on m.text) (a_top m role) (top_good m role) (top_solid m role) (begins_apart m.text)

  pub tops_fall : (s t : Bool) (tokens rest : List Token) (o : Option Top) (a : Top) → (more_tops m role).read s tokens ≡ Ok (o, t, rest) → o ≡ Some a → length rest < length tokens
  tops_fall = many.list_falls (begins_top m.text) (instr_goes_on m.text) (a_top m role) (top_good m role) (top_solid m role) (begins_apart m.text)

  pub tops_begin : (s : Bool) (tokens : List Token) → with_front [] (repeat_all (more_tops m role) s tokens) ≡ repeat_all (more_tops m role) s tokens
  tops_begin = many.list_begins (begins_top m.text) (instr_goes_on m.text) (a_top m role) (top_good m role) (top_solid m role) (begins_apart m.text)
