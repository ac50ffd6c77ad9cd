-- Indices into types: how far they lead, and which lead somewhere.
pub use Rattle.no_sound.specs.Indices.{defined, index_offset, inner_leads, inner_offset, part_in, part_of, path_leads, path_offset, place_in, resolved, resolved_step, told_of}
