-- Whole modules are read again.
use Rattle.std.proofs.Common.{◌≡◌, ℕ, Bool, true, false, List, [], ◌∷◌, ◌++◌, codes, Some, None, inl, inr, refl, sym, ap, subst, ◌∙◌, append_assoc}
use Rattle.std.specs.List.{list_any}
use Rattle.no_ir.specs.declared.function.Function.{Function}
use Rattle.no_ir.specs.declared.function.GlobalVar.{GlobalVar}
use Rattle.no_ir.specs.declared.function.Module.{Module}
use Rattle.no_ir.specs.declared.function.Role.{Role}
use Rattle.no_ir.specs.declared.types.Ty.{Ty}
use Rattle.no_lex.specs.declared.token.Token.{Token}
use Rattle.no_lex.specs.declared.token.TokenKind.TheVariants as kind
use Rattle.no_read_rules.specs.Rules.{done, ◌>>=◌, lift, if_next}
use Rattle.no_read_rules.specs.Scope.{Meaning}
use Rattle.no_read_rules.specs.Spelled.{is_kind}
use Rattle.no_read_rules.specs.Types.{a_type}
use Rattle.no_read_constants.specs.Constants.{a_const}
use Rattle.no_read_toplevel.specs.Globals.{a_global}
use Rattle.no_read_functions.specs.declared.functions.Written.{Written}
use Rattle.no_read_toplevel.specs.declared.groups.Settings.{Settings}
use Rattle.no_read_toplevel.specs.declared.tops.Top.{Top}
use Rattle.no_read_toplevel.specs.declared.tops.Top.TheVariants as top
use Rattle.no_read_toplevel.specs.declared.tops.TopWord.TheVariants as begins
use Rattle.no_read_functions.specs.Functions.{a_function}
use Rattle.no_read_toplevel.specs.Grouping.{nothing_set, found_in, all_grouped, no_groups}
use Rattle.no_read_toplevel.specs.Modules.{set_function, with_marks, function_of, functions_in, globals_in, layout_or, module_of, IsModuleOf}
use Rattle.no_read_toplevel.specs.Tops.{begins_top, function_top, declared, declared_top, global_top, node_top, worded, a_top, more_tops, tops}
use Rattle.no_print.specs.Constants.{Spelled, type_at, const_pieces}
use Rattle.no_print.specs.Instructions.{alignment_pieces}
use Rattle.no_print.specs.Modules.{layout_pieces, kind_word, global_pieces, attributes, type_alone, param_pieces, blocks_pieces, locals_of, declared_pieces, defined_pieces, function_by, function_pieces, has_inserted, node_pieces, each}
use Rattle.no_print.specs.Names.{global_name, spelling}
use Rattle.no_print.specs.Pieces.{Piece, glued, spaced, lined, parted, piece, word, sign, with_commas}
use Rattle.no_print.specs.Stand.{Stand}
use Rattle.no_round_trip.specs.Spells.{AreBytes, TypeFits, TypesFit, Spells, over, spelled_by}
use Rattle.no_round_trip.proofs.BodyAgain.{body_returns}
use Rattle.no_round_trip.proofs.ConstAgain.{const_again}
use Rattle.no_round_trip.proofs.RuleFrame.{done_spells, made_spells, lift_spells, yes_spells, no_spells}
use Rattle.no_round_trip.proofs.RuleListing.{repeat_end, repeat_more}
use Rattle.no_round_trip.proofs.RuleStanding.{begins, begins_none}
use Rattle.no_round_trip.proofs.TypeAgain.{type_again}
use Rattle.no_round_trip.proofs.TopBodies.{BodyBack}
use Rattle.no_round_trip.specs.Printed.{form_pieces}
use Rattle.no_round_trip.proofs.TopForms.{WasRead, FormsRead, settings_may, layout_bytes, forms_read}
use Rattle.no_round_trip.proofs.TopFunctions.{FunctionAgain, declaration_again, function_again}
use Rattle.no_round_trip.proofs.TopGlobals.{global_again}
use Rattle.no_round_trip.proofs.TopMarks.{MayStand, AllSet}
use Rattle.no_round_trip.proofs.TopSteps.{Twice}
use Rattle.no_round_trip.proofs.TopEntities.{Tops, word_tops, global_tops, meta_tops, kind_begins, worded_spells, layout_spells, layout_tops, node_top_spells}
use Rattle.no_read_toplevel.specs.Entities.{a_declaration}

-- ---- pieces, bracketed another way

module _ (sp : Spelled) (f : Function) where
  declared_are : word parted (codes "declare")
      ++ (type_at sp spaced f.result ++ (global_name spaced f.name ++ (sign glued (codes "(") ++ (with_commas (type_alone sp) glued f.params ++ (sign glued (codes ")") ++ attributes f))))) ≡ declared_pieces sp f
  declared_are = ap (λ (l : List Piece). word parted (codes "declare") ++ l)
      (sym (append_assoc (type_at sp spaced f.result) (global_name spaced f.name) (sign glued (codes "(") ++ (with_commas (type_alone sp) glued f.params ++ (sign glued (codes ")") ++ attributes f)))))

  abbrev body_part : List Piece
  body_part = sign spaced (codes "{") ++ (blocks_pieces sp (locals_of f) f.blocks ++ sign lined (codes "}"))

  abbrev params_part : List Piece
  params_part = with_commas (param_pieces sp f.registers) glued f.params

  defined_are : word parted (codes "define")
      ++ ((type_at sp spaced f.result ++ (global_name spaced f.name ++ (sign glued (codes "(") ++ (params_part ++ (sign glued (codes ")") ++ attributes f))))) ++ body_part) ≡ defined_pieces sp f
  defined_are =
      let t = type_at sp spaced f.result in
      let n = global_name spaced f.name in
      let whole = append_assoc t (n ++ (sign glued (codes "(") ++ (params_part ++ (sign glued (codes ")") ++ attributes f)))) body_part in
      let part = append_assoc params_part (sign glued (codes ")") ++ attributes f) body_part in
      let back : List Piece = sign glued (codes "(") ++ (params_part ++ (sign glued (codes ")") ++ (attributes f ++ body_part))) in
      ap (λ (l : List Piece). word parted (codes "define") ++ l) (whole ∙ ap (λ (l : List Piece). t ++ (n ++ (sign glued (codes "(") ++ l))) part ∙ sym (append_assoc t n back))

-- ---- one form after the other

module _ (m : Meaning) (text : List ℕ) (role : Role) where
  -- a form that gives this function is printed so
  record FormAgain (pieces : List Piece) (f : Function) : Type 0 where
    pub again : Written
    pub is : (groups : List ℕ → Settings) → function_of text groups again ≡ f
    pub starts : Tops text pieces
    pub spells : (s : Bool) → Spells text (a_top (over m text) role) s pieces (top.Function again) s

  -- forms that give these globals and functions, and no layout, are printed so
  record FormsAgain (pieces : List Piece) (gs : List GlobalVar) (fs : List Function) : Type 0 where
    pub forms : List Top
    pub spells : Spells text (tops (over m text) role) true pieces forms true
    pub globals : globals_in forms ≡ gs
    pub functions : (groups : List ℕ → Settings) → functions_in text groups forms ≡ fs
    pub layout : (stated : List ℕ) → layout_or stated forms ≡ stated

  more : (s u t : Bool) (front back : List Piece) (x : Top) (forms : List Top) → Spells text (a_top (over m text) role) s front x u → Tops text front → Spells text (tops (over m text) role) u back forms t
      → Spells text (tops (over m text) role) s (front ++ back) (x ∷ forms) t
  more s u t front back x forms h starts others =
      repeat_more text (more_tops (over m text) role) s u t front back x forms
      (yes_spells text (begins_top text) (a_top (over m text) role >>= λ a. done (Some a)) (done None) s front (Some x) u (begins text (begins_top text) true front starts)
      (made_spells text (a_top (over m text) role) (λ a. Some a) s u front x h))
      others

  ended : Spells text (tops (over m text) role) true [] [] true
  ended = repeat_end text (more_tops (over m text) role) true true []
      (no_spells text (begins_top text) (a_top (over m text) role >>= λ a. done (Some a)) (done None) true [] None true (begins_none text (begins_top text)) (done_spells text true None))

  node_again : (inserted : Bool) → FormsAgain (node_pieces inserted) [] []
  node_again false = record { forms = []; spells = ended; globals = refl; functions = λ groups. refl; layout = λ stated. refl }
  node_again true = record {
    forms = top.Nothing ∷ [];
    spells = more true true true (node_pieces true) [] top.Nothing [] (node_top_spells m text role true) (meta_tops text lined (codes "!0") (sign spaced (codes "=") ++ (piece kind.Meta spaced (codes "!") ++ (sign glued (codes "{") ++ sign glued (codes "}"))))) ended;
    globals = refl;
    functions = λ groups. refl;
    layout = λ stated. refl;
  }

  module _ (bytes : AreBytes m.text)
      (typed : (gap : List ℕ) → Twice text (a_type m 64) (a_type (over m text) 64) (type_at (spelled_by m) gap))
      (consts : (t : Ty) → TypeFits t → (gap : List ℕ) → Twice text (a_const m 64 t) (a_const (over m text) 64 t) (λ c. const_pieces (spelled_by m) c t gap))
      (back_again : BodyBack m text role) where
    abbrev sp : Spelled
    sp = spelled_by m

    -- ---- functions

    declared_form : (pieces : List Piece) (f : Function) → FunctionAgain text (a_declaration (over m text) role >>= λ x. done (declared x)) pieces f → FormAgain (word parted (codes "declare") ++ pieces) f
    unfolding declared_top
    declared_form pieces f x = record {
      again = x.again;
      is = x.is;
      starts = word_tops text parted (codes "declare") begins.Declare pieces refl;
      spells = λ s. worded_spells m text role parted (codes "declare") begins.Declare pieces (top.Function x.again) s s refl (λ tokens stand.
          let k = x.spells tokens stand in
          record {
            front = k.front;
            back = k.back;
            first = k.first;
            between = s;
            parts = k.parts;
            in_front = (k.in_front, refl);
            in_back = (k.in_back.0, ap (λ (w : Written). top.Function w) k.in_back.1, refl);
          });
    }

    defined_form : (pieces : List Piece) (f : Function) → FunctionAgain text (a_function (over m text) role) pieces f → FormAgain (word parted (codes "define") ++ pieces) f
    unfolding function_top
    defined_form pieces f x = record {
      again = x.again;
      is = x.is;
      starts = word_tops text parted (codes "define") begins.Define pieces refl;
      spells = λ s. worded_spells m text role parted (codes "define") begins.Define pieces (top.Function x.again) s s refl
          (made_spells text (lift (a_function (over m text) role)) (λ f. top.Function f) s s pieces x.again (lift_spells text (a_function (over m text) role) s pieces x.again x.spells));
    }

    form_again : (w : Written) → WasRead m role w → (st : Settings) → MayStand role st.address → FormAgain (function_pieces sp (set_function st w)) (set_function st w)
    form_again w (inl r) st may =
        let x = function_again m text role bytes typed back_again r.0 w r.1 st may in
        let f = set_function st w in
        subst (λ (l : List Piece). FormAgain l f) (defined_are sp f ∙ sym (ap (function_by sp f) x.some.is)) (defined_form _ f x.function)
    form_again w (inr r) st may =
        subst (λ (w : Written). FormAgain (function_pieces sp (set_function st w)) (set_function st w)) r.3
        (let f = set_function st (declared r.1) in subst (λ (l : List Piece). FormAgain l f) (declared_are sp f) (declared_form _ f (declaration_again m text role bytes typed r.0 r.1 r.2 st may)))

    module _ (groups : List ℕ → Settings) where
      one_function : (w : Written) (back : List Piece) (fs : List Function) → FormAgain (function_pieces sp (function_of m.text groups w)) (function_of m.text groups w)
          → FormsAgain (each (function_pieces sp) fs ++ back) [] fs → FormsAgain (each (function_pieces sp) (function_of m.text groups w ∷ fs) ++ back) [] (function_of m.text groups w ∷ fs)
      one_function w back fs x y =
          let f = function_of m.text groups w in
          record {
            forms = top.Function x.again ∷ y.forms;
            spells = subst (λ (l : List Piece). Spells text (tops (over m text) role) true l (top.Function x.again ∷ y.forms) true) (sym (append_assoc (function_pieces sp f) (each (function_pieces sp) fs) back))
                (more true true true (function_pieces sp f) (each (function_pieces sp) fs ++ back) (top.Function x.again) y.forms (x.spells true) x.starts y.spells);
            globals = y.globals;
            functions = λ others. λ i. x.is others i ∷ y.functions others i;
            layout = y.layout;
          }

      functions_again : ((w : Written) → AllSet role w.head.marks → MayStand role (with_marks m.text groups nothing_set w.head.marks).address) → (forms : List Top) → FormsRead m role forms → (back : List Piece)
          → FormsAgain back [] [] → FormsAgain (each (function_pieces sp) (functions_in m.text groups forms) ++ back) [] (functions_in m.text groups forms)
      functions_again may [] r back end = end
      functions_again may (top.Nothing ∷ forms) r back end = functions_again may forms r.1 back end
      functions_again may (top.Layout layout ∷ forms) r back end = functions_again may forms r.1 back end
      functions_again may (top.Group token marks ∷ forms) r back end = functions_again may forms r.1 back end
      functions_again may (top.Global g ∷ forms) r back end = functions_again may forms r.1 back end
      functions_again may (top.Function w ∷ forms) r back end =
          one_function w back (functions_in m.text groups forms) (form_again w r.0.0 (with_marks m.text groups nothing_set w.head.marks) (may w r.0.1)) (functions_again may forms r.1 back end)

    -- ---- globals

    abbrev behind_global : GlobalVar → List Piece
    behind_global g = sign spaced (codes "=") ++ (word spaced (kind_word g.constant) ++ (type_at sp spaced g.ty ++ (const_pieces sp g.init g.ty spaced ++ alignment_pieces g.align)))

    global_spells : (g : GlobalVar) (s : Bool) → Spells text (a_global (over m text)) tt (global_pieces sp g) g tt → Spells text (a_top (over m text) role) s (global_pieces sp g) (top.Global g) s
    unfolding a_top global_top
    global_spells g s x =
        yes_spells text (is_kind kind.Global) (lift (a_global (over m text)) >>= λ g. done (top.Global g)) (if_next (is_kind kind.Meta) (node_top (over m text)) (worded (over m text) role)) s (global_pieces sp g) (top.Global g) s
        (kind_begins text kind.Global kind.Global lined (64 ∷ spelling g.name) (behind_global g) true refl)
        (made_spells text (lift (a_global (over m text))) (λ g. top.Global g) s s (global_pieces sp g) g (lift_spells text (a_global (over m text)) s (global_pieces sp g) g x))

    one_global : (g : GlobalVar) (tokens : List Token) → (a_global m).means tt tokens g tt → (back : List Piece) (gs : List GlobalVar) (fs : List Function)
        → FormsAgain (each (global_pieces sp) gs ++ back) gs fs → FormsAgain (each (global_pieces sp) (g ∷ gs) ++ back) (g ∷ gs) fs
    one_global g tokens k back gs fs y =
        record {
          forms = top.Global g ∷ y.forms;
          spells = subst (λ (l : List Piece). Spells text (tops (over m text) role) true l (top.Global g ∷ y.forms) true) (sym (append_assoc (global_pieces sp g) (each (global_pieces sp) gs) back))
              (more true true true (global_pieces sp g) (each (global_pieces sp) gs ++ back) (top.Global g) y.forms (global_spells g true (global_again m text sp bytes typed consts tokens g k))
              (global_tops text lined (64 ∷ spelling g.name) (behind_global g)) y.spells);
          globals = ap (λ (l : List GlobalVar). g ∷ l) y.globals;
          functions = y.functions;
          layout = y.layout;
        }

    globals_again : (forms : List Top) → FormsRead m role forms → (back : List Piece) (fs : List Function) → FormsAgain back [] fs → FormsAgain (each (global_pieces sp) (globals_in forms) ++ back) (globals_in forms) fs
    globals_again [] r back fs end = end
    globals_again (top.Nothing ∷ forms) r back fs end = globals_again forms r.1 back fs end
    globals_again (top.Layout layout ∷ forms) r back fs end = globals_again forms r.1 back fs end
    globals_again (top.Group token marks ∷ forms) r back fs end = globals_again forms r.1 back fs end
    globals_again (top.Function w ∷ forms) r back fs end = globals_again forms r.1 back fs end
    globals_again (top.Global g ∷ forms) r back fs end = one_global g r.0.0 r.0.1 back (globals_in forms) fs (globals_again forms r.1 back fs end)

    -- ---- whole modules

    module _ (types : List (List ℕ × Ty)) where
      forms_again : (forms : List Top) → FormsRead m role forms → (others : List Token) → let found : Module = module_of m.text types forms in Stand text others (form_pieces sp found) → IsModuleOf (over m text) role types others found
      forms_again forms r others stand =
          let groups = found_in (all_grouped m.text no_groups forms) in
          let fs = functions_in m.text groups forms in
          let node = node_pieces (list_any has_inserted fs) in
          let layout = layout_or [] forms in
          let x = functions_again groups (λ w h. settings_may m role m.text forms w.head.marks r h) forms r node (node_again (list_any has_inserted fs)) in
          let y = globals_again forms r (each (function_pieces sp) fs ++ node) fs x in
          let z = more false true true (layout_pieces layout) (each (global_pieces sp) (globals_in forms) ++ (each (function_pieces sp) fs ++ node)) (top.Layout layout) y.forms
          (layout_spells m text role layout (layout_bytes m role [] forms tt r)) (layout_tops m text role layout) y.spells in
          record {
            forms = top.Layout layout ∷ y.forms;
            stated = true;
            meant = z others stand;
            is = λ i. record {
              layout = sym (y.layout layout) i;
              types = types;
              globals = sym y.globals i;
              functions = sym (y.functions (found_in (all_grouped text no_groups (top.Layout layout ∷ y.forms)))) i;
            };
          }

      pub modules_again : (tokens others : List Token) (found : Module) → IsModuleOf m role types tokens found → Stand text others (form_pieces sp found) → IsModuleOf (over m text) role types others found
      modules_again tokens others found k stand =
          subst (λ (f : Module). IsModuleOf (over m text) role types others f) (sym k.is)
          (forms_again k.forms (forms_read m role bytes false k.stated tokens k.forms k.meant) others (subst (λ (f : Module). Stand text others (form_pieces sp f)) k.is stand))

pub law : (m : Meaning) (text : List ℕ) (role : Role) (types : List (List ℕ × Ty)) (tokens others : List Token) (found : Module) → AreBytes m.text → TypesFit m.types
    → IsModuleOf m role types tokens found → Stand text others (form_pieces (spelled_by m) found) → IsModuleOf (over m text) role types others found
law m text role types tokens others found bytes fit k stand =
    modules_again m text role bytes
    (λ gap used t r. (type_again m text bytes 64 gap tt tt tt used t tt r).2)
    (λ t fits gap used c r. const_again m text bytes fit 64 t fits gap used c r)
    (λ s t used bs r. body_returns m text bytes fit t role s t used bs r)
    types tokens others found k stand
