-- What the verifier finds of a source, put together into what runs need.
use Rattle.std.proofs.Common.{◌≡◌, ⊎_elim, ℕ, zero, suc, ◌+◌, ◌<◌, ◌≤◌, ◌&&◌, ◌||◌, not, nat_lt, nat_le, Bool, true, false, true≢false, bytes_eq, codes, leb-true, Option, Some, None, option_map, if◌then◌else◌, List, [], ◌∷◌, length, take, slice_get, Contains, refl, sym, ap, ◌∙◌, subst, arith}
use Rattle.std.specs.List.{list_all, list_any}
use Rattle.std.specs.Cmp.Lexicographic.{same_text}
use Rattle.std.proofs.lemmas.Bool.{or_parts}
use Rattle.std.proofs.lemmas.List.Folds.{list_any-append}
use Rattle.std.proofs.lemmas.Cmp.{nat_list_eq_equiv}
use Rattle.std.proofs.lemmas.Option.{same_Some, none-some, slice_get-map}
use Rattle.no_ir.specs.Naming.{is_known}
use Rattle.no_ir.specs.declared.types.Ty.{Ty, out-Ty}
use Rattle.no_ir.specs.declared.types.Ty.TheOpen.{Ty-F}
use Rattle.no_ir.specs.declared.instruction.Op.{Op}
use Rattle.no_ir.specs.declared.instruction.Op.TheVariants as op
use Rattle.no_ir.specs.declared.instruction.Instr.{Instr}
use Rattle.no_ir.specs.declared.function.Block.{Block}
use Rattle.no_ir.specs.declared.function.Function.{Function}
use Rattle.no_ir.specs.declared.function.Module.{Module}
use Rattle.no_module.specs.Functions.{is_declared}
use Rattle.no_module.specs.Scalars.{void_step, is_void}
use Rattle.no_verify_paths.specs.Paths.{code_of, IsAssigned}
use Rattle.no_ir.specs.declared.function.Role.TheVariants.{Source}
use Rattle.no_layout.specs.Sizes.{sizes_of}
use Rattle.no_module.specs.Instructions.{exits_of, is_terminator}
use Rattle.no_module.specs.Formed.{counts_of, within, result_formed, param_formed, instr_formed, block_formed, function_formed, IsFormed}
use Rattle.no_room.specs.Accepted.{Accepted}
use Rattle.no_room.specs.Fits.{have_room}
use Rattle.no_verify_structure.specs.Ending.{function_ending, ending_of}
use Rattle.no_verify_structure.specs.Entry.{int_step, is_i32, main_parameters, is_main, entry_of}
use Rattle.no_verify_structure.specs.Finding.{first_at, first_place}
use Rattle.no_verify_structure.specs.Phis.{function_phis, phis_of}
use Rattle.no_verify_structure.specs.Unknown.{global_known, function_unknown, unknown_of}
use Rattle.no_verify.specs.declared.fault.VerifyKind.TheVariants as kind
use Rattle.no_verify.specs.Verdict.{IsAccepted}
use Rattle.no_semantics.specs.First.{program_of}
use Rattle.no_semantics.specs.Taken.{is_callable}
use Rattle.no_verify_structure.specs.Names.{globals_names, functions_names}
use Rattle.no_verify_structure.specs.Twice.{names_before, params_differ, globals_differ, block_twice, function_twice, twice_of}
use Rattle.no_semantics.specs.Starts.{main_from}
use Rattle.no_semantics.specs.States.{function_at}
use Rattle.no_semantics.specs.Values.{Program, width_of}
use Rattle.no_progress.specs.Begin.{HasMain}
use Rattle.no_progress.specs.Proper.{Each, Idle, OpFits, IsTarget, IsKnown, IsProper, IsSafe}
use Rattle.no_progress.proofs.Frames.{cases, found}
use Rattle.no_safe.proofs.Lists.{and_one, and_two, not_of, placed_none, unless_none, whole_none, at_none, all_at, none_at, taken_at}
use Rattle.no_safe.proofs.Blocks.{code_is, IsEnded, block_ended, in_block, entry_plain, phis_lead}
use Rattle.no_safe.proofs.Edges.{IsShaped, PhisTake, target}

-- what types give of a function
pub record IsTyped (p : Program) (g : Function) (width : ℕ → Option ℕ) : Type 0 where
  pub params : Each (λ (q : ℕ × Ty). (q.0 < length g.registers) × (width q.0 ≡ Some (width_of p.layout q.1))) g.params
  pub phis : PhisTake p g width
  pub fits : (b k : ℕ) (i : Instr) → slice_get (code_of g b) k ≡ Some i → ((l : ℕ) → Contains (exits_of i.op) l → IsTarget p g width b l) → OpFits p g width b i.result i.op
  pub idle : (b k : ℕ) (i : Instr) → slice_get (code_of g b) k ≡ Some i → is_terminator i.op ≡ true → Idle width i.result

-- what goes on names no label
no_labels : (o : Op) → is_terminator o ≡ false → exits_of o ≡ []
unfolding exits_of
no_labels (op.Br l) e = absurd (true≢false e)
no_labels (op.CondBr c l k) e = absurd (true≢false e)
no_labels (op.Switch w a l cs) e = absurd (true≢false e)
no_labels _ e = refl

module _ (p : Program) (m : Module) (g : Function) (s : IsShaped m g) (width : ℕ → Option ℕ) (t : IsTyped p g width) where
  ended : (b : ℕ) (block : Block) → slice_get g.blocks b ≡ Some block → IsEnded (code_of g b)
  ended b block is = subst IsEnded (sym (code_is g b block is)) (block_ended g s.ending b block is)

  targets : (b k : ℕ) (i : Instr) → slice_get (code_of g b) k ≡ Some i → (l : ℕ) → Contains (exits_of i.op) l → IsTarget p g width b l
  targets b k i at l c = ⊎_elim
      (λ ends. target p m g s width t.phis b k i at ends l c)
      (λ goes. absurd (let lt : c.0 < length (exits_of i.op) = c.1 in let none : length (exits_of i.op) ≡ 0 = ap length (no_labels i.op goes) in omega (arith, lt, none)))
      (cases (is_terminator i.op))

  pub proper : IsAssigned g → IsProper p g
  proper paths = record {
    width = width;
    params = t.params;
    some = λ b lt. let x = found g.blocks b lt in (ended b x.0 x.1).some;
    inner = λ b k i at. let h = in_block g b k i at in (ended b h.block h.is).inner k i at;
    last = λ b k i at. let h = in_block g b k i at in (ended b h.block h.is).last k i at;
    entry = entry_plain g s.phis;
    lead = phis_lead g s.phis;
    fits = λ b k i at. t.fits b k i at (targets b k i at);
    idle = t.idle;
    paths = paths;
  }

-- ---- main

any_found : {A : Type 0} (test : A → Bool) (xs : List A) → list_any test xs ≡ true → (k : ℕ) × (x : A) × (slice_get xs k ≡ Some x) × (test x ≡ true)
any_found test [] e = absurd (true≢false (sym e))
any_found {A} test (y ∷ ys) e = ⊎_elim
    (λ passes. (0, y, refl, passes))
    (λ fails. let more = any_found test ys (sym (ap (λ (b : Bool). b || list_any test ys) fails) ∙ e) in (suc more.0, more.1, more.2, more.3))
    (cases (test y))

-- the first function of the name, with none of it before
main_at : (n : ℕ) (fs : List Function) (k m : ℕ) (f : Function) → slice_get fs k ≡ Some f → bytes_eq f.name (codes "main") ≡ true
    → ((j : ℕ) (h : Function) → j < k → slice_get fs j ≡ Some h → bytes_eq h.name (codes "main") ≡ false) → m ≡ n + k → main_from n fs ≡ Some m
main_at n [] k m f at is before e = absurd (none-some f at)
main_at n (x ∷ xs) zero m f at is before e =
    let here : n ≡ m = omega (arith, e) in
    ap (λ (b : Bool). if b then Some n else main_from (n + 1) xs) (ap (λ (g : Function). bytes_eq g.name (codes "main")) (same_Some x f at) ∙ is) ∙ ap Some here
main_at n (x ∷ xs) (suc k) m f at is before e =
    ap (λ (b : Bool). if b then Some n else main_from (n + 1) xs) (before 0 x (omega arith) refl)
    ∙ main_at (n + 1) xs k m f at is (λ j h lt at'. before (suc j) h (omega (arith, lt)) at') (omega (arith, e))

-- what is found of a function with its names
no_function_twice : (m : Module) → twice_of m ≡ None → (k : ℕ) (f : Function) → slice_get m.functions k ≡ Some f → function_twice m k f ≡ None
no_function_twice m e k f at =
    at_none (function_twice m) 0 m.functions (placed_none (first_at (function_twice m) 0 m.functions) (whole_none (globals_differ m.globals) (first_place (function_twice m) m.functions) e).1)
    k k f at (omega arith)

-- a function's name is none of those before it
name_new : (m : Module) → twice_of m ≡ None → (k : ℕ) (f : Function) → slice_get m.functions k ≡ Some f → (j : ℕ) (h : Function) → j < k → slice_get m.functions j ≡ Some h → bytes_eq f.name h.name ≡ false
name_new m e k f at j h lt at' =
    let new : is_known (names_before m k) f.name ≡ false =
    not_of (is_known (names_before m k) f.name) (and_one (not (is_known (names_before m k) f.name)) (params_differ f.params)
    (unless_none (not (is_known (names_before m k) f.name) && params_differ f.params) (first_at (block_twice f) 0 f.blocks) (no_function_twice m e k f at)).0) in
    let parts = or_parts (list_any (bytes_eq f.name) (globals_names m.globals)) (list_any (bytes_eq f.name) (functions_names (take k m.functions)))
    (sym (list_any-append (bytes_eq f.name) (globals_names m.globals) (functions_names (take k m.functions))) ∙ new) in
    none_at (bytes_eq f.name) (functions_names (take k m.functions)) parts.1 j h.name
    (slice_get-map (λ (f : Function). f.name) (take k m.functions) j ∙ ap (option_map (λ (f : Function). f.name)) (taken_at k m.functions j h lt at'))

-- an i32 is no void
gives_number : (t : Ty-F Ty) → int_step t ≡ true → void_step t ≡ false
gives_number Ty-F.Void e = absurd (true≢false (sym e))
gives_number _ e = refl

-- a main that gives a number
pub record GivesNumber (p : Program) : Type 0 where
  pub main : HasMain p
  pub gives : is_void main.function.result ≡ false

-- a source that has its entry, with unique names, has a main
has_main : (p : Program) → entry_of p.«module» Source ≡ None → twice_of p.«module» ≡ None → GivesNumber p
has_main p entry twice =
    let it = any_found is_main p.«module».functions (whole_none (list_any is_main p.«module».functions) None entry).0 in
    let f : Function = it.1 in
    let name : bytes_eq f.name (codes "main") ≡ true = and_one (bytes_eq f.name (codes "main")) (not (is_declared f) && (is_i32 f.result && main_parameters f.params)) it.3 in
    let rest : (not (is_declared f) && (is_i32 f.result && main_parameters f.params)) ≡ true = and_two (bytes_eq f.name (codes "main")) (not (is_declared f) && (is_i32 f.result && main_parameters f.params)) it.3 in
    let same : f.name ≡ codes "main" = same_text f.name (codes "main") (sym name) in
    record {
      gives = gives_number (out-Ty f.result) (and_one (is_i32 f.result) (main_parameters f.params) (and_two (not (is_declared f)) (is_i32 f.result && main_parameters f.params) rest));
      main = record {
        number = it.0;
        is = main_at 0 p.«module».functions it.0 it.0 f it.2 name
            (λ j h lt at. ap (λ (n : List ℕ). bytes_eq h.name n) (sym same) ∙ nat_list_eq_equiv.symm h.name f.name ∙ name_new p.«module» twice it.0 f it.2 j h lt at) (omega arith);
        function = f;
        function_is = it.2;
        is_defined = not_of (is_declared f) (and_one (not (is_declared f)) (is_i32 f.result && main_parameters f.params) rest);
      };
    }

-- ---- functions of an accepted source

shaped : (m : Module) → ending_of m ≡ None → phis_of m ≡ None → unknown_of m ≡ None → twice_of m ≡ None → IsFormed m → (k : ℕ) (g : Function) → slice_get m.functions k ≡ Some g → IsShaped m g
shaped m ending phis unknown twice formed k g at = record {
  ending = at_none (λ j. function_ending) 0 m.functions (placed_none (first_at (λ j. function_ending) 0 m.functions) ending) k k g at (omega arith);
  phis = at_none (λ j. function_phis) 0 m.functions (placed_none (first_at (λ j. function_phis) 0 m.functions) phis) k k g at (omega arith);
  known = at_none (λ j. function_unknown m) 0 m.functions
      (placed_none (first_at (λ j. function_unknown m) 0 m.functions) (whole_none (list_all (global_known m) m.globals) (first_place (λ j. function_unknown m) m.functions) unknown).1) k k g at (omega arith);
  once = (unless_none (not (is_known (names_before m k) g.name) && params_differ g.params) (first_at (block_twice g) 0 g.blocks) (no_function_twice m twice k g at)).1;
  labels = λ b block is. and_one (nat_lt block.label (length g.labels)) (list_all (instr_formed (within (counts_of m) g)) block.instrs)
      (all_at (block_formed (within (counts_of m) g)) g.blocks blocks b block is);
}
  where
    all : function_formed (counts_of m) g ≡ true
    all = all_at (function_formed (counts_of m)) m.functions formed.functions k g at

    blocks : list_all (block_formed (within (counts_of m) g)) g.blocks ≡ true
    blocks = and_two (list_all (param_formed (within (counts_of m) g)) g.params) (list_all (block_formed (within (counts_of m) g)) g.blocks)
        (and_two (result_formed (length m.types) g.result) (list_all (param_formed (within (counts_of m) g)) g.params && list_all (block_formed (within (counts_of m) g)) g.blocks) all)

-- what types give of the module
pub record AreTyped (p : Program) : Type 0 where
  pub pointer : 32 ≤ p.layout.pointer
  pub width : ℕ → Function → ℕ → Option ℕ
  pub functions : (k : ℕ) (g : Function) → function_at p k ≡ Some g → is_declared g ≡ false → IsTyped p g (width k g)
  pub callable : (k : ℕ) (g : Function) → function_at p k ≡ Some g → is_callable p.«module» p.role k g ≡ true → IsKnown p g

module _ (a : Accepted) (is : IsAccepted a.«module» Source a) where
  few_functions : length a.«module».functions ≤ 65536
  few_functions =
      let fits : (have_room a.layout (sizes_of a.layout a.«module».types) a.«module».globals && nat_le (length a.«module».functions) 65536) ≡ true =
      (whole_none (have_room a.layout (sizes_of a.layout a.«module».types) a.«module».globals && nat_le (length a.«module».functions) 65536) None (sym (is.nowhere 9 kind.ImageTooLarge refl))).0 in
      leb-true (length a.«module».functions) 65536
      (and_two (have_room a.layout (sizes_of a.layout a.«module».types) a.«module».globals) (nat_le (length a.«module».functions) 65536) fits)

  once : twice_of a.«module» ≡ None
  once = sym (is.nowhere 1 kind.Twice refl)

  pub safe : AreTyped (program_of a) → IsSafe (program_of a)
  safe t = record {
    pointer = t.pointer;
    few = few_functions;
    defined = λ k g at def. proper (program_of a) a.«module» g
        (shaped a.«module» (sym (is.nowhere 5 kind.NoTerminator refl)) (sym (is.nowhere 6 kind.PhiEdges refl)) (sym (is.nowhere 2 kind.UnknownName refl)) once is.formed k g at)
        (t.width k g) (t.functions k g at def) (is.nowhere 7 kind.NotAssigned refl k g at);
    callable = t.callable;
  }

  pub main : GivesNumber (program_of a)
  main = has_main (program_of a) (sym (is.nowhere 10 kind.NoMain refl)) once
