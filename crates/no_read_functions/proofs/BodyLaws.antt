-- The laws of a function's body, and of the loop that reads it.
use Rattle.std.proofs.Common.{◌≡◌, ℕ, ◌<◌, Bool, List, [], ◌∷◌, ◌++◌, length, Option, Some, None, Result, Ok}
use Rattle.no_lex.specs.declared.token.Token.{Token}
use Rattle.no_ir.specs.declared.function.Block.{Block}
use Rattle.no_ir.specs.declared.function.Role.{Role}
use Rattle.no_ir.specs.declared.instruction.Instr.{Instr}
use Rattle.no_read_rules.specs.declared.fault.Stopped.{Stopped}
use Rattle.no_read_rules.specs.declared.fault.Stop.{Stop}
use Rattle.no_read_rules.specs.Repeated.{repeat_all}
use Rattle.no_read_rules.specs.Rules.{Rule, Fails, none, Good, IsSolid}
use Rattle.no_read_rules.specs.Scope.{Meaning}
use Rattle.no_read_rules.proofs.Laws.{once}
use Rattle.no_read_registers.specs.declared.locals.Locals.{Locals}
use Rattle.no_read_instructions.specs.Instructions.{an_instr, instr_goes_on}
use Rattle.no_read_functions.specs.declared.blocks.Piece.{Piece}
use Rattle.no_read_functions.specs.declared.blocks.Piece.TheVariants as piece
use Rattle.no_read_functions.specs.Blocks.{a_piece, with_open, body}
use Rattle.no_read_functions.proofs.BlockLaws as laws
use Rattle.no_read_instructions.proofs.InstrLaws.{instr_good}
use Rattle.no_read_functions.proofs.InstrApart.{instr_solid, instr_apart, close_apart, label_apart}

module _ (m : Meaning) (role : Role) where
  abbrev step : Rule Locals (Option Piece)
  step = a_piece m.text (an_instr m role)

  abbrev Total : Type 0
  Total = Result (List Block × Locals × List Token) Stopped

  pub body_good : Good none (body m.text (an_instr m role))
  body_good = laws.body_good m.text (an_instr m role) (instr_goes_on m.text) (instr_good m role) (instr_solid m role) (instr_apart m role) (close_apart m.text) (label_apart m.text)

  pub body_solid : IsSolid (body m.text (an_instr m role))
  body_solid = laws.body_solid m.text (an_instr m role) (instr_goes_on m.text) (instr_good m role) (instr_solid m role) (instr_apart m role) (close_apart m.text) (label_apart m.text)

  pub one_body : (s t u : Locals) (tokens : List Token) (a b : List Block) → (body m.text (an_instr m role)).means s tokens a t → (body m.text (an_instr m role)).means s tokens b u → a ≡ b
  one_body s t u tokens a b x y = once none (body m.text (an_instr m role)) body_good s t u tokens a b x y

  pub blocks_label : (blocks : List Block) (label next : ℕ) (instrs : List Instr) (s t : Locals) (tokens aft : List Token) (o : Option Piece) (total : Total) → step.read s tokens ≡ Ok (o, t, aft) → o ≡ Some (piece.Label next)
      → with_open blocks label instrs (repeat_all step s tokens) ≡ total → with_open (blocks ++ record { label = label; instrs = instrs } ∷ []) next [] (repeat_all step t aft) ≡ total
  blocks_label = laws.open_label m.text (an_instr m role) (instr_goes_on m.text) (instr_good m role) (instr_solid m role) (instr_apart m role) (close_apart m.text) (label_apart m.text)

  pub blocks_instr : (blocks : List Block) (label : ℕ) (instrs : List Instr) (i : Instr) (s t : Locals) (tokens aft : List Token) (o : Option Piece) (total : Total) → step.read s tokens ≡ Ok (o, t, aft) → o ≡ Some (piece.Instr i)
      → with_open blocks label instrs (repeat_all step s tokens) ≡ total → with_open blocks label (instrs ++ i ∷ []) (repeat_all step t aft) ≡ total
  blocks_instr = laws.open_instr m.text (an_instr m role) (instr_goes_on m.text) (instr_good m role) (instr_solid m role) (instr_apart m role) (close_apart m.text) (label_apart m.text)

  pub blocks_fail : (e : Stop) (blocks : List Block) (label : ℕ) (instrs : List Instr) (s : Locals) (tokens : List Token) (total : Total) → Fails e (step.read s tokens)
      → with_open blocks label instrs (repeat_all step s tokens) ≡ total → Fails e total
  blocks_fail = laws.open_fails m.text (an_instr m role) (instr_goes_on m.text) (instr_good m role) (instr_solid m role) (instr_apart m role) (close_apart m.text) (label_apart m.text)

  pub blocks_stop : (blocks : List Block) (label : ℕ) (instrs : List Instr) (s t : Locals) (tokens rest : List Token) (o : Option Piece) (total : Total) → step.read s tokens ≡ Ok (o, t, rest) → o ≡ None
      → with_open blocks label instrs (repeat_all step s tokens) ≡ total → total ≡ Ok (blocks ++ record { label = label; instrs = instrs } ∷ [], t, rest)
  blocks_stop = laws.open_stops m.text (an_instr m role) (instr_goes_on m.text) (instr_good m role) (instr_solid m role) (instr_apart m role) (close_apart m.text) (label_apart m.text)

  pub blocks_fall : (s t : Locals) (tokens rest : List Token) (o : Option Piece) → step.read s tokens ≡ Ok (o, t, rest) → length rest < length tokens
  blocks_fall = laws.open_falls m.text (an_instr m role) (instr_goes_on m.text) (instr_good m role) (instr_solid m role) (instr_apart m role) (close_apart m.text) (label_apart m.text)
