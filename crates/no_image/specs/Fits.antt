-- Modules of which an image can be made, as those are that were accepted.
pub use Rattle.no_sound.specs.Image.{byte_step, each_fits, elements_fit, fields_fit, global_fits, globals_fit, has_image, image_fits, init_fits, init_step, inits_fit, int_step, is_byte, is_int, is_pointer, pointer_step, text_fits}
