use Rattle.engine.specs.Known.{bus}
use Rattle.engine.specs.Cycle.{release, after}
use Rattle.engine.proofs.Calm.{after_sound, after_lighter, late_after_lighter}
use Rattle.engine.proofs.Lighter.{release_sound, release_lighter, scheduled_lighter}
use Rattle.engine.proofs.known.lighter_is_no_later.Goals as goal

pub returns : goal.returns
returns c =
    λ goes n wide narrow wider t s st ss lighter k.
    let one = bus goes n wide in
    let other = bus goes n narrow in
    let t' = after one k t in
    let s' = after other k s in
    let still = after_lighter goes n wide narrow wider k t s st ss lighter in
    record {
      lighter = still;
      serves = scheduled_lighter goes n wide narrow wider (release t') (release s') (release_sound t' (after_sound one k t st)) (release_sound s' (after_sound other k s ss)) (release_lighter t' s' still);
      late = late_after_lighter goes n wide narrow wider k t s st ss lighter;
    }
