-- Modules of which a machine runs each instruction: what is asked of each part.
pub use Rattle.no_sound.specs.Sound.{align_fits, arg_fits, args_fit, block_fits, constant_fits, constant_number, count_fits, entry_holds, field_number, field_of, function_fits, goes_between, index_fits, indices_fit, inner_fit, is_scalar, is_scalar_step, is_width, known_part, op_fits, operand_fits, operand_number, pair_fits, place_fits, same_numbers, symbol_fits, table_holds, type_fits}
unfoldable pub use Rattle.no_sound.specs.Sound.{is_sound}
