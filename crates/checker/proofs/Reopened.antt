-- What the types of a set and its image carry, got back whole: the image opens, and the links are those of its files.
use Rattle.std.proofs.Common.{Some, None, Option, true≢false, sym}
use Rattle.image.specs.Files.{bytes_of, files_of}
use Rattle.image.specs.Opening.{Opens}
use Rattle.image.specs.declared.image.Image.{Image}
use Rattle.links.specs.Linked.{AllLinked}
use Rattle.checker.specs.Seen.{view_if}
use Rattle.checker.specs.Views.{Open}
use Rattle.checker.specs.declared.checker.LinkedImage.{LinkedImage}
use Rattle.checker.specs.declared.checker.OpenSet.{OpenSet}
use Rattle.checker.proofs.Recovered.{opens_at, linked_at}

pub image_opens : (image : Image) → Opens (bytes_of image) (files_of image)
image_opens image = opens_at (bytes_of image) (files_of image) image.opens

pub all_linked : (f : LinkedImage) → AllLinked (bytes_of f.image) (files_of f.image) f.links
all_linked f k from to = linked_at (bytes_of f.image) (files_of f.image) f.image.opens f.links f.linked k from to

-- the image of a set that is opened opens
pub set_opens : (c : Option OpenSet) → Open (view_if c) → Opens (view_if c).image (view_if c).count
set_opens None o = absurd (true≢false (sym o))
set_opens (Some s) o = image_opens s.files.image
