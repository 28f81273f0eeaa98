-- `uprzezar_raster`: where an image is read, its raster ends no earlier than it starts.
use Rattle.std.proofs.Common.{sym}
use Rattle.image.proofs.Promises.{reading_lies}
use Rattle.uprzezar.proofs.of_images.uprzezar_raster.Goals as goal

pub overflow_sub-result : goal.overflow_sub-result
overflow_sub-result c = let lies = reading_lies c.args.bytes.now in
    rw (sym c.in-Ok.ensures) at lies.order
