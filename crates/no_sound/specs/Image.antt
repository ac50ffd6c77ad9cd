-- Modules of which an image can be made, as those are that the verifier accepts.
use Rattle.std.specs.Prelude.{ℕ, Bool, true, false, ◌&&◌, ◌==◌, nat_le, List, [], ◌∷◌, length}
use Rattle.std.specs.List.{list_all}
use Rattle.no_ir.specs.declared.types.Ty.{Ty, out-Ty}
use Rattle.no_ir.specs.declared.types.Ty.TheOpen.{Ty-F}
use Rattle.no_ir.specs.declared.constant.Const.{Const}
use Rattle.no_ir.specs.declared.constant.Const.TheOpen.{Const-F}
use Rattle.no_ir.specs.declared.constant.Const.TheFolds.{fold-Const}
use Rattle.no_ir.specs.declared.function.GlobalVar.{GlobalVar}
use Rattle.no_ir.specs.declared.function.Module.{Module}
use Rattle.no_layout.specs.Memory.{globals_limit}
use Rattle.no_layout.specs.declared.extent.Extent.{Extent}
use Rattle.no_layout.specs.declared.layout.Layout.{Layout}
use Rattle.no_room.specs.Ends.{regions_of}
use Rattle.no_sound.specs.Indices.{resolved}
use Rattle.no_sound.specs.Sound.{is_width, type_fits, align_fits, place_fits}

-- ---- initialisers that are of their type

-- the form of an integer type of a width that there is
abbrev pub int_step : Ty-F Ty → Bool
int_step (Ty-F.Int w) = is_width w
int_step _ = false

-- an integer type
abbrev pub is_int : Ty → Bool
is_int t = int_step (out-Ty t)

-- the form of ptr
abbrev pub pointer_step : Ty-F Ty → Bool
pointer_step Ty-F.Ptr = true
pointer_step _ = false

-- the type ptr
abbrev pub is_pointer : Ty → Bool
is_pointer t = pointer_step (out-Ty t)

-- the form of i8
abbrev pub byte_step : Ty-F Ty → Bool
byte_step (Ty-F.Int w) = w == 8
byte_step _ = false

-- the type i8
abbrev pub is_byte : Ty → Bool
is_byte t = byte_step (out-Ty t)

-- a text is of an array of as many bytes
abbrev pub text_fits : Ty-F Ty → List ℕ → Bool
text_fits (Ty-F.Array count element) text = is_byte element && count == length text
text_fits _ text = false

-- elements are of an array of as many, each of the element's type
abbrev pub elements_fit : Ty-F Ty → List (Ty → Bool) → Bool
elements_fit (Ty-F.Array count element) fits = count == length fits && list_all (λ (fit : Ty → Bool). fit element) fits
elements_fit _ fits = false

-- each field is of its type, and there are as many fields as types
abbrev pub each_fits : List Ty → List (Ty → Bool) → Bool
each_fits [] [] = true
each_fits (t ∷ ts) (fit ∷ fits) = fit t && each_fits ts fits
each_fits _ _ = false

-- fields are of a struct of as many, each of its field's type
abbrev pub fields_fit : Ty-F Ty → List (Ty → Bool) → Bool
fields_fit (Ty-F.Struct packed ts) fits = each_fits ts fits
fields_fit _ fits = false

-- one form of a constant is of a type, where it is known of which types the constants inside it are
abbrev pub init_step : Module → Layout → List Extent → Const-F (Ty → Bool) → Ty → Bool
init_step m l sizes Const-F.Zero t = true
init_step m l sizes (Const-F.Int n) t = is_int t
init_step m l sizes (Const-F.Str text) t = text_fits (out-Ty (resolved m.types t)) text
init_step m l sizes (Const-F.Array fits) t = elements_fit (out-Ty (resolved m.types t)) fits
init_step m l sizes (Const-F.Struct fits) t = fields_fit (out-Ty (resolved m.types t)) fits
init_step m l sizes (Const-F.Address place) t = is_pointer t && place_fits m l sizes place
init_step m l sizes (Const-F.AddressAsInt place) t = is_int t && place_fits m l sizes place
init_step m l sizes (Const-F.IntAsPtr n) t = is_pointer t

-- a constant is of a type: zeros are of each
abbrev pub init_fits : Module → Layout → List Extent → Const → Ty → Bool
init_fits m l sizes = fold-Const (Ty → Bool) (init_step m l sizes)

-- ---- globals

-- the type of a global and each type inside it has at most 0x1000_0000 bytes
abbrev pub global_fits : Layout → List Extent → GlobalVar → Bool
global_fits l sizes g = type_fits l sizes g.ty && align_fits g.align

-- each of these globals fits
abbrev pub globals_fit : Layout → List Extent → List GlobalVar → Bool
globals_fit l sizes globals = list_all (global_fits l sizes) globals

-- each initialiser is of its global's type
abbrev pub inits_fit : Module → Layout → List Extent → List GlobalVar → Bool
inits_fit m l sizes globals = list_all (λ (g : GlobalVar). init_fits m l sizes g.init g.ty) globals

-- the globals fit, and end at 0x0200_0000 at most
abbrev pub image_fits : Layout → List Extent → List GlobalVar → Bool
image_fits l sizes globals = globals_fit l sizes globals && nat_le (regions_of l sizes globals).globals_end globals_limit

-- an image can be made of a module: its globals fit, and their initialisers are of their types
abbrev pub has_image : Module → Layout → List Extent → Bool
has_image m l sizes = image_fits l sizes m.globals && inits_fit m l sizes m.globals
