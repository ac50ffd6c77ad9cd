-- Parts of types that fit fit, and so do definitions of named types.
pub use Rattle.no_sound.proofs.Parts.{element_fits, first_more, fits_on, has_field, in_struct, index_small, inner_more, inner_none, known_sum, leads_more, leads_on, measured, named_is, next_index, offset_on, part_fits, place_sum, resolved_fits, resolved_size, rolled, sum_more, whole_rest}
