-- The state of an image's saver after a device was passed to it.
use Rattle.std.specs.Prelude.{Some, if◌then◌else◌}
use Rattle.std.specs.Str.{bytes_eq}
use Rattle.tpm_image_text.specs.KeptText.{kept_text}
use Rattle.tpm_record.specs.Record.{Record}
use Rattle.tpmsim_image.specs.declared.image_saver.ImageSaver.{ImageSaver}

-- the saver after it was notified that its device may have changed. If anything except the device's
-- clock changed, the saver has written the device
abbrev pub saver_after_change : ImageSaver → Record → ImageSaver
saver_after_change old r = record old {
  kept = kept_text r;
  clock = (if bytes_eq old.kept (kept_text r) then old.clock else Some r.fixed.clock);
}
