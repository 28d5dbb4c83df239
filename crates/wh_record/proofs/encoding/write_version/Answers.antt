use Rattle.wh_record.proofs.encoding.write_version.Goals as goal

pub returns-clause-spelled : goal.returns-clause-spelled
returns-clause-spelled c =
    let fits = c.in_ok-write_version_head.ensures.fits in
    record {
      id = fits.0;
      data_timestamp = fits.1;
      next_row = fits.2;
      width = fits.3;
      few_removed = rw (← c.deref.ensures.value) c.in_ok-write_removed.ensures.fits;
      removed = rw (← c.deref.ensures.value) c.in_ok-write_removed.ensures.rising;
      few = rw (← c.deref-2.ensures.value) c.in_ok-write_added.ensures.fits;
      added = rw (← c.deref-2.ensures.value) c.in_ok-write_added.ensures.spelled;
    }
