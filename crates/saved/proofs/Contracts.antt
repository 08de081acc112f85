-- What a caller learns from the contracts of `save` and `load`, as the language reads them, is what the round trips start from. A contract that says less is
-- refused here. Assumes nothing.
use Rattle.saving.specs.declared.Saved.{Saved}
use Rattle.saved.specs.declared.Loaded.{Loaded}
use Rattle.saved.specs.Saved.{Saves, Loads}
use Rattle.saved.proofs.save.Reads as of_save
use Rattle.saved.proofs.load.Reads as of_load

pub save_ensures : (κs : _) (lent : _) (r : Saved) (after : _) → of_save.Learnt κs lent r after → Saves lent.0 lent.1.0.now r after.1.0.now
save_ensures κs lent r after learnt = learnt

pub load_ensures : (κs : _) (lent : _) (r : Loaded) (after : _) → of_load.Learnt κs lent r after → Loads lent.0.now r
load_ensures κs lent r after learnt = learnt
