-- Definitions that were lifted are lifted again where they are spelled.
use Rattle.std.proofs.Common.{◌≡◌, ℕ, suc, zero, ◌+◌, Bool, true, false, List, [], ◌∷◌, ◌++◌, length, map, drop, bytes_eq, position, slice_get, codes, Option, Some, None, Result, Ok, Err, if◌then◌else◌, refl, sym, ap, subst, ◌∙◌, arith, append_assoc, append-nil}
use Rattle.std.specs.List.{zip}
use Rattle.std.proofs.lemmas.List.{length-map, length-append}
use Rattle.no_lex.specs.declared.token.Token.{Token}
use Rattle.no_lex.specs.declared.token.TokenKind.TheVariants as kind
use Rattle.no_ir.specs.Naming.{is_known, with_name}
use Rattle.no_ir.specs.declared.types.Ty.{Ty}
use Rattle.no_ir.specs.declared.function.Module.{Module}
use Rattle.no_read_rules.specs.declared.fault.Flaw.{Flaw}
use Rattle.no_read_rules.specs.declared.fault.Flaw.TheVariants.{Syntax}
use Rattle.no_read_rules.specs.declared.fault.Stopped.{Stopped}
use Rattle.no_read_rules.specs.Rules.{keeping}
use Rattle.no_read_rules.specs.Scope.{Meaning}
use Rattle.no_read_rules.specs.Spelled.{is_kind, is_word, is_sign, only_where}
use Rattle.no_read_rules.specs.Types.{a_type}
use Rattle.no_read_rules.specs.Unescaped.{name_of}
use Rattle.no_read_types.specs.declared.definition.Definition.{Definition}
use Rattle.no_read_types.specs.declared.definition.Lifting.{Lifting}
use Rattle.no_read_types.specs.declared.lifted.Lifted.{Lifted}
use Rattle.no_read_types.specs.Graph.{references, graph_of, order_of, number_of}
use Rattle.no_read_types.specs.Lifting.{name_at, begins_definition, added_name, new_name, a_definition, Piece, Kept, Defined, ArePieces, lifting_of, names_from, in_types, lift_all, type_definitions}
use Rattle.no_read_types.specs.Lifted.{renumbered, as_list, picked, types_in, names_with, IsNumbered, Follows, Lifts}
use Rattle.no_read_types.proofs.LiftLaws.{lift_only}
use Rattle.no_print.specs.Constants.{Spelled}
use Rattle.no_print.specs.Modules.{layout_pieces, named_pieces, each, spelled_in, module_pieces}
use Rattle.no_print.specs.Names.{spelling}
use Rattle.no_print.specs.Pieces as pieces
use Rattle.no_print.specs.Stand.{Stand}
use Rattle.no_print.specs.Types.{type_pieces}
use Rattle.no_round_trip.specs.Spells.{AreBytes, over}
use Rattle.no_names.proofs.Again.{name_again}
use Rattle.no_round_trip.proofs.RuleStanding.{stand_parts, piece_is_kind, kind_tested, word_tested, sign_tested}
use Rattle.no_round_trip.proofs.TypeAgain.{type_again}
use Rattle.no_round_trip.specs.Rest.{forms_in, rest_pieces}
use Rattle.no_round_trip.proofs.LiftDefined.{WasRead, AreNamed, pieces_named, begins_no_name, place_none}
use Rattle.no_round_trip.proofs.LiftFirst.{Picked, lifted_picks, map_twice, map_alike}
use Rattle.no_round_trip.proofs.LiftOrders.{IsLow, counting, counting_long, counting_number, low_order}
use Rattle.no_round_trip.proofs.LiftPicks as picks
use Rattle.no_round_trip.proofs.LiftPicks.{EachNew, Holds, names_added}
use Rattle.no_round_trip.proofs.LiftRenaming.{Renames, with_names, type_renamed}
use Rattle.no_round_trip.proofs.LiftRenumbering.{struct_renumbered, same_numbers}
use Rattle.no_round_trip.proofs.LiftUntyped.{Untyped, untyped_begins, forms_plain}

abbrev Heading : Type 0
Heading = (ℕ × List ℕ) × List (List ℕ)

abbrev okay : Heading → Result Heading Flaw
okay x = Ok x

-- no piece is a name of a local
abbrev NoLocal : List pieces.Piece → Type 0
NoLocal [] = Unit {0}
NoLocal (p ∷ all) = (piece_is_kind kind.Local p ≡ false) × NoLocal all

module _ (from : Meaning) (text : List ℕ) (number : ℕ → ℕ) (names : List (List ℕ)) (renames : Renames number from.named names) (bytes : AreBytes from.text) (s : Spelled) (same : s.named ≡ names) where
  abbrev r : Ty → Ty
  r = renumbered number

  -- what names mean in the other text
  abbrev M : Meaning
  M = over (with_names from names) text

  -- ---- one definition

  type_means : (d : Definition) → WasRead from d → (tokens : List Token) → Stand text tokens (type_pieces s.named (r d.ty) pieces.spaced) → (a_type M 64).means tt tokens (r d.ty) tt
  type_means d was tokens stand =
      (type_again (with_names from names) text bytes 64 pieces.spaced tt tt tt was.tokens (r d.ty) tt (type_renamed number from names renames 64 was.tokens d.ty was.read)).2 tokens
      (subst (λ l. Stand text tokens (type_pieces l (r d.ty) pieces.spaced)) same stand)

  name_means : (held : List (List ℕ)) (d : Definition) → AreBytes d.name → is_known held d.name ≡ false → (t : Token) → is_kind kind.Local t ≡ true → name_at text t ≡ d.name → new_name text held t ≡ Ok ((t.start, d.name), held ++ d.name ∷ [])
  name_means held d b new t local named =
      ap (λ x. if x then added_name held t.start (name_at text t) (position (bytes_eq (name_at text t)) held) else Err Syntax) local
      ∙ ap (λ n. added_name held t.start n (position (bytes_eq n) held)) named
      ∙ ap (added_name held t.start d.name) (place_none held d.name new)
      ∙ ap (λ x. okay ((t.start, d.name), (if x then held else held ++ d.name ∷ []))) new

  record DefinedAgain (held : List (List ℕ)) (tokens : List Token) (d : Definition) : Type 0 where
    pub other : Definition
    pub name : other.name ≡ d.name
    pub ty : other.ty ≡ r d.ty
    pub means : (a_definition M).means held tokens other (held ++ d.name ∷ [])
    pub begins : (back : List Token) → begins_definition text (tokens ++ back) ≡ true

  defined_again : (held : List (List ℕ)) (d : Definition) → WasRead from d → is_known held d.name ≡ false → (tokens : List Token) → Stand text tokens (named_pieces s (d.name, r d.ty)) → DefinedAgain held tokens d
  unfolding a_definition
  defined_again held d was new [] stand = absurd stand
  defined_again held d was new (t ∷ []) stand = absurd stand.1
  defined_again held d was new (t ∷ u ∷ []) stand = absurd stand.1.1
  defined_again held d was new (t ∷ u ∷ v ∷ ts) stand =
      let local : is_kind kind.Local t ≡ true = kind_tested text kind.Local (record { gap = pieces.lined; kind = kind.Local; bytes = 37 ∷ spelling d.name }) t stand.0 in
      let sign : is_sign text (codes "=") u ≡ true = sign_tested text (codes "=") (record { gap = pieces.spaced; kind = kind.Sign; bytes = codes "=" }) u stand.1.0 in
      let word : is_word text (codes "type") v ≡ true = word_tested text (codes "type") (record { gap = pieces.spaced; kind = kind.Word; bytes = codes "type" }) v stand.1.1.0 in
      let named : name_at text t ≡ d.name = ap (λ b. name_of (drop 1 b)) stand.0.bytes ∙ name_again d.name (was.bytes bytes) in
      record {
        other = record { at = t.start; name = d.name; ty = r d.ty };
        name = refl;
        ty = refl;
        means = record {
          front = t ∷ [];
          back = u ∷ v ∷ ts;
          first = (t.start, d.name);
          between = held ++ d.name ∷ [];
          parts = refl;
          in_front = record { token = t; alone = refl; value = name_means held d (was.bytes bytes) new t local named };
          in_back = record {
            front = u ∷ [];
            back = v ∷ ts;
            first = tt;
            between = held ++ d.name ∷ [];
            parts = refl;
            in_front = (record { token = u; alone = refl; value = ap (λ b. keeping tt (only_where b)) sign }, refl);
            in_back = record {
              front = v ∷ [];
              back = ts;
              first = tt;
              between = held ++ d.name ∷ [];
              parts = refl;
              in_front = (record { token = v; alone = refl; value = ap (λ b. keeping tt (only_where b)) word }, refl);
              in_back = record {
                front = ts;
                back = [];
                first = r d.ty;
                between = held ++ d.name ∷ [];
                parts = sym (append-nil ts);
                in_front = record { value = r d.ty; read = (type_means d was ts stand.1.1.1, refl); passes = struct_renumbered number d.ty d.ty was.struct };
                in_back = (refl, refl, refl);
              };
            };
          };
        };
        begins = λ back. rw (local, sign, word) refl;
      }

  -- ---- all of them

  record AllAgain (held : List (List ℕ)) (tokens : List Token) (ds : List Definition) (rest : List pieces.Piece) : Type 0 where
    pub parts : List Piece
    pub are : ArePieces M held tokens parts
    pub named : map picks.name_of (lifting_of parts).defined ≡ map picks.name_of ds
    pub typed : map (λ d. d.ty) (lifting_of parts).defined ≡ map (λ d. r d.ty) ds
    pub kept : Stand text (lifting_of parts).kept rest

  kept_again : (held : List (List ℕ)) (tokens : List Token) (rest : List pieces.Piece) → Untyped rest → Stand text tokens rest → AllAgain held tokens [] rest
  kept_again held [] [] x stand = record { parts = []; are = refl; named = refl; typed = refl; kept = tt }
  kept_again held [] (p ∷ rest) x stand = absurd stand
  kept_again held (t ∷ ts) [] x stand = absurd stand
  kept_again held (t ∷ ts) (p ∷ rest) x stand =
      let more = kept_again held ts rest x.1 stand.1 in
      record {
        parts = Kept t ∷ more.parts;
        are = record { begins = untyped_begins text (t ∷ ts) (p ∷ rest) x stand; back = ts; parts = refl; others = more.are };
        named = more.named;
        typed = more.typed;
        kept = (stand.0, more.kept);
      }

  abbrev spelled_all : List Definition → List pieces.Piece
  spelled_all ds = each (named_pieces s) (map (λ d. (d.name, r d.ty)) ds)

  all_again : (held : List (List ℕ)) (ds : List Definition) → Holds (WasRead from) ds → EachNew held (map picks.name_of ds) → (rest : List pieces.Piece) → Untyped rest → (tokens : List Token) → Stand text tokens (spelled_all ds ++ rest) → AllAgain held tokens ds rest
  all_again held [] was new rest x tokens stand = kept_again held tokens rest x stand
  all_again held (d ∷ ds) was new rest x tokens stand =
      let p = stand_parts text tokens (named_pieces s (d.name, r d.ty)) (spelled_all ds ++ rest) (subst (Stand text tokens) (append_assoc (named_pieces s (d.name, r d.ty)) (spelled_all ds) rest) stand) in
      let first = defined_again held d was.0 new.0 p.front p.in_front in
      let more = all_again (held ++ d.name ∷ []) ds was.1 new.1 rest x p.back p.in_back in
      record {
        parts = Defined first.other ∷ more.parts;
        are = record {
          begins = ap (begins_definition text) p.parts ∙ first.begins p.back;
          front = p.front;
          back = p.back;
          between = held ++ d.name ∷ [];
          parts = p.parts;
          definition = first.means;
          others = more.are;
        };
        named = (λ i. first.name i ∷ more.named i);
        typed = (λ i. first.ty i ∷ more.typed i);
        kept = more.kept;
      }

  -- behind pieces that are no names
  front_again : (held : List (List ℕ)) (ds : List Definition) (front behind rest : List pieces.Piece) → NoLocal front → ((tokens : List Token) → Stand text tokens behind → AllAgain held tokens ds rest)
      → (tokens : List Token) → Stand text tokens (front ++ behind) → AllAgain held tokens ds (front ++ rest)
  front_again held ds [] behind rest x others tokens stand = others tokens stand
  front_again held ds (p ∷ front) behind rest x others [] stand = absurd stand
  front_again held ds (p ∷ front) behind rest x others (t ∷ ts) stand =
      let more = front_again held ds front behind rest x.1 others ts stand.1 in
      record {
        parts = Kept t ∷ more.parts;
        are = record { begins = begins_no_name text t ts (kind_tested text kind.Local p t stand.0 ∙ x.0); back = ts; parts = refl; others = more.are };
        named = more.named;
        typed = more.typed;
        kept = (stand.0, more.kept);
      }

-- ---- numbered as they stand

slice_at : (before : List Definition) (d : Definition) (ds : List Definition) → slice_get (before ++ d ∷ ds) (length before) ≡ Some d
slice_at [] d ds = refl
slice_at (x ∷ before) d ds = slice_at before d ds

picked_all : (before ds : List Definition) → picked (before ++ ds) (counting (length before) (length ds)) ≡ ds
picked_all before [] = refl
picked_all before (d ∷ ds) =
    let long : length (before ++ d ∷ []) ≡ suc (length before) = (let l = length-append before (d ∷ []) in omega arith) in
    let more : picked (before ++ d ∷ ds) (counting (suc (length before)) (length ds)) ≡ ds =
    ap (λ l. picked l (counting (suc (length before)) (length ds))) (sym (append_assoc before (d ∷ []) ds))
    ∙ ap (λ n. picked ((before ++ d ∷ []) ++ ds) (counting n (length ds))) (sym long) ∙ picked_all (before ++ d ∷ []) ds in
    ap (λ o. as_list o ++ picked (before ++ d ∷ ds) (counting (suc (length before)) (length ds))) (slice_at before d ds) ∙ ap (λ l. d ∷ l) more

module _ (ds : List Definition) (new : EachNew [] (map picks.name_of ds)) (low : IsLow (length ds) 0 (graph_of ds)) where
  graph_long : length (graph_of ds) ≡ length ds
  graph_long = length-map ds (λ d. references d.ty)

  own_order : order_of (graph_of ds) ≡ counting 0 (length ds)
  own_order = low_order (graph_of ds) (subst (λ n. IsLow n 0 (graph_of ds)) (sym graph_long) low) ∙ ap (counting 0) graph_long

  own_picks : picked ds (order_of (graph_of ds)) ≡ ds
  own_picks = ap (picked ds) own_order ∙ picked_all [] ds

  own_number : (n : ℕ) → number_of (order_of (graph_of ds)) n ≡ n
  own_number n = ap (λ o. number_of o n) own_order ∙ counting_number 0 (length ds) n

  own_numbered : IsNumbered ds (map picks.name_of ds) (map (λ d. d.ty) ds)
  own_numbered = record {
    all = ap length own_order ∙ counting_long 0 (length ds);
    names = sym (ap (names_with []) own_picks ∙ names_added [] ds new);
    by_number = sym (ap (types_in (number_of (order_of (graph_of ds)))) own_picks ∙ map_alike (λ d. renumbered (number_of (order_of (graph_of ds))) d.ty) (λ d. d.ty) ds (λ d. same_numbers (number_of (order_of (graph_of ds))) own_number d.ty));
  }

-- ---- the whole text

zip_made : {A B C : Type 0} (f : A → B) (g : A → C) (xs : List A) → zip (map f xs) (map g xs) ≡ map (λ x. (f x, g x)) xs
zip_made f g [] = refl
zip_made f g (x ∷ xs) = ap (λ l. (f x, g x) ∷ l) (zip_made f g xs)

module _ (m : Module) (lifted : Lifted) (zipped : m.types ≡ zip lifted.named lifted.types) (from : Meaning) (p : Picked from lifted) where
  pub types_are : m.types ≡ map (λ d. (d.name, renumbered p.number d.ty)) p.picks
  types_are = zipped ∙ (λ i. zip (p.named i) (p.types i)) ∙ zip_made picks.name_of (λ d. renumbered p.number d.ty) p.picks

  pub names_spelled : (spelled_in m).named ≡ map picks.name_of p.picks
  names_spelled = ap (map (λ (t : List ℕ × Ty). t.0)) types_are ∙ map_twice (λ d. (d.name, renumbered p.number d.ty)) (λ (t : List ℕ × Ty). t.0) p.picks

  pub types_spelled : (spelled_in m).types ≡ map (λ d. renumbered p.number d.ty) p.picks
  types_spelled = ap (map (λ (t : List ℕ × Ty). t.1)) types_are ∙ map_twice (λ d. (d.name, renumbered p.number d.ty)) (λ (t : List ℕ × Ty). t.1) p.picks

  abbrev s : Spelled
  s = spelled_in m

  module _ (text : List ℕ) (bytes : AreBytes from.text) (tokens : List Token) (stand : Stand text tokens (module_pieces m)) where
    again : AllAgain from text p.number (map picks.name_of p.picks) p.renames bytes s names_spelled [] tokens p.picks (rest_pieces m)
    again = front_again from text p.number (map picks.name_of p.picks) p.renames bytes s names_spelled [] p.picks (layout_pieces m.layout)
        (spelled_all from text p.number (map picks.name_of p.picks) p.renames bytes s names_spelled p.picks ++ forms_in s m) (forms_in s m) (refl, (refl, (refl, (refl, tt))))
        (all_again from text p.number (map picks.name_of p.picks) p.renames bytes s names_spelled [] p.picks p.each p.new (forms_in s m) (forms_plain s m).each) tokens
        (subst (λ l. Stand text tokens (layout_pieces m.layout ++ (each (named_pieces s) l ++ forms_in s m))) types_are stand)

-- ---- lifted again

module _ (read : List ℕ) (readings : List Token) (lifted : Lifted) (is : Lifts read readings (Ok lifted)) (m : Module) (zipped : m.types ≡ zip lifted.named lifted.types) where
  abbrev from : Meaning
  from = in_types read readings

  known : Picked from lifted
  known = lifted_picks read readings lifted is

  -- the module is spelled with these names and types
  pub spelled_alike : ((spelled_in m).named ≡ lifted.named) × ((spelled_in m).types ≡ lifted.types)
  spelled_alike = (names_spelled m lifted zipped from known ∙ sym known.named, types_spelled m lifted zipped from known ∙ sym known.types)

  module _ (bytes : AreBytes read) (text : List ℕ) (tokens : List Token) (stand : Stand text tokens (module_pieces m)) where
    abbrev names : List (List ℕ)
    names = map picks.name_of known.picks

    abbrev Own : Meaning
    Own = over (with_names from names) text

    whole : AllAgain from text known.number names known.renames bytes (spelled_in m) (names_spelled m lifted zipped from known) [] tokens known.picks (rest_pieces m)
    whole = again m lifted zipped from known text bytes tokens stand

    abbrev ds : List Definition
    ds = (lifting_of whole.parts).defined

    found : AreNamed Own [] tokens ds
    found = pieces_named Own [] tokens whole.parts whole.are

    meaning_is : in_types text tokens ≡ Own
    meaning_is = ap (λ n. record { text = text; named = n; types = []; globals = []; functions = [] }) (found.found ∙ whole.named)

    lifts_are : type_definitions text tokens ≡ Ok (lifting_of whole.parts)
    lifts_are = ap (λ k. lift_all k [] tokens) meaning_is ∙ lift_only Own [] tokens whole.parts whole.are

    long : length known.picks ≡ length ds
    long = sym (length-map known.picks picks.name_of) ∙ sym (ap length whole.named) ∙ length-map ds picks.name_of

    graph_is : map (λ d. references (renumbered known.number d.ty)) known.picks ≡ graph_of ds
    graph_is = sym (map_twice (λ d. renumbered known.number d.ty) references known.picks) ∙ ap (map references) (sym whole.typed) ∙ map_twice (λ d. d.ty) references ds

    low : IsLow (length ds) 0 (graph_of ds)
    low = subst (λ n. IsLow n 0 (graph_of ds)) long (subst (IsLow (length known.picks) 0) graph_is known.low)

    numbered : IsNumbered ds lifted.named lifted.types
    numbered = subst (λ l. IsNumbered ds l lifted.types) (whole.named ∙ sym known.named) (subst (IsNumbered ds (map picks.name_of ds)) (whole.typed ∙ sym known.types) (own_numbered ds found.new low))

    pub lifted_again : (other : Lifted) × Lifts text tokens (Ok other) × (other.named ≡ lifted.named) × (other.types ≡ lifted.types) × Stand text other.rest (rest_pieces m)
    lifted_again =
        let other : Lifted = record { named = lifted.named; types = lifted.types; rest = (lifting_of whole.parts).kept } in
        (other, subst (λ (found : Result Lifting Stopped). Follows found (Ok other)) (sym lifts_are) (numbered, refl), refl, refl, whole.kept)
