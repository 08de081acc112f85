-- What a caller learns from each method's contract, as the language reads the contract, is the definition that `Plays`, `Feeds` and the demands start from. A contract
-- that says less is refused here, whatever its method is proved to do. Assumes nothing.
use Prim.Native.Nat.{ℕ}
use Rattle.rules.specs.Requests.{open_top, open_sub, commit, abort, quiet}
use Rattle.rules.specs.ReadWrite.{read, write}
use Rattle.bench.specs.declared.Bench.{Bench}
use Rattle.bench.specs.declared.Reply.{Reply}
use Rattle.play.specs.declared.Fed.{Fed}
use Rattle.bench.specs.Plays.{IsEmpty, Returns, Became}
use Rattle.marks.specs.declared.requests.Request as values
use Rattle.marks.specs.Answers.{answer_number}
use Rattle.marks.specs.Requests.{meant}
use Rattle.lists.specs.declared.Request.{Request}
use Rattle.lists.specs.declared.Played.{Played}
use Rattle.lists.specs.Listed.{ReturnsOne, ReturnsList}
use Rattle.play.specs.Feeding.{FedAsBy, FedAs, ExplainedAs}
use Rattle.play.specs.Finishing.{FinishedAsBy, FinishedAs, FinishedExplainingAs}
use Rattle.bench.proofs.Bench.empty.Reads as of_empty
use Rattle.bench.proofs.Bench.open_top.Reads as of_open_top
use Rattle.bench.proofs.Bench.open_sub.Reads as of_open_sub
use Rattle.bench.proofs.Bench.read.Reads as of_read
use Rattle.bench.proofs.Bench.write.Reads as of_write
use Rattle.bench.proofs.Bench.commit.Reads as of_commit
use Rattle.bench.proofs.Bench.abort.Reads as of_abort
use Rattle.bench.proofs.Bench.quiet.Reads as of_quiet
use Rattle.bench.proofs.Bench.make.Reads as of_make
use Rattle.bench.proofs.Bench.request.Reads as of_request
use Rattle.lists.proofs.play_one.Reads as of_one
use Rattle.lists.proofs.play_array.Reads as of_array
use Rattle.play.proofs.Player.tell.Reads as of_tell
use Rattle.play.proofs.Player.finish_telling.Reads as of_finish_telling
use Rattle.play.proofs.Player.feed.Reads as of_feed
use Rattle.play.proofs.Player.explain.Reads as of_explain
use Rattle.play.proofs.Player.finish.Reads as of_finish
use Rattle.play.proofs.Player.finish_explaining.Reads as of_finish_explaining

pub empty_ensures : (r : Bench) → of_empty.Learnt tt tt r tt → IsEmpty r
empty_ensures r learnt = learnt

-- Each takes the record and its numbers, which are the same at the end of the call.
module _ (b : Bench) (r : Reply) where
  pub open_top_ensures : (n : ℕ) → of_open_top.Learnt tt (b, (n, tt)) r (b, (n, tt)) → Returns b (open_top n) r
  open_top_ensures n learnt = learnt

  pub open_sub_ensures : (n p : ℕ) → of_open_sub.Learnt tt (b, (n, (p, tt))) r (b, (n, (p, tt))) → Returns b (open_sub n p) r
  open_sub_ensures n p learnt = learnt

  pub read_ensures : (a i : ℕ) → of_read.Learnt tt (b, (a, (i, tt))) r (b, (a, (i, tt))) → Returns b (read a i) r
  read_ensures a i learnt = learnt

  pub write_ensures : (a i : ℕ) → of_write.Learnt tt (b, (a, (i, tt))) r (b, (a, (i, tt))) → Returns b (write a i) r
  write_ensures a i learnt = learnt

  pub commit_ensures : (a : ℕ) → of_commit.Learnt tt (b, (a, tt)) r (b, (a, tt)) → Returns b (commit a) r
  commit_ensures a learnt = learnt

  pub abort_ensures : (a : ℕ) → of_abort.Learnt tt (b, (a, tt)) r (b, (a, tt)) → Returns b (abort a) r
  abort_ensures a learnt = learnt

  pub quiet_ensures : (a i : ℕ) → of_quiet.Learnt tt (b, (a, (i, tt))) r (b, (a, (i, tt))) → Returns b (quiet a i) r
  quiet_ensures a i learnt = learnt

  pub request_ensures : (q : values.Request) → of_request.Learnt tt (b, (q, tt)) r (b, (q, tt)) → Returns b (meant q) r
  request_ensures q learnt = learnt

-- In place it takes the record, which is another after the call.
pub make_ensures : (κs : _) (lent : _) (r : _) (after : _) → of_make.Learnt κs lent r after → Became lent.0.now (meant lent.1.0) (answer_number r) after.0.now
make_ensures κs lent r after learnt = learnt

-- ---- requests by the list

pub one_ensures : (b : Bench) (q : Request) (r : Reply) → of_one.Learnt tt (b, (q, tt)) r (b, (q, tt)) → ReturnsOne b q r
one_ensures b q r learnt = learnt

-- `play_list` lends its list; `play_array`, its one caller in this repository, is read here.
pub array_ensures : (κs : _) (lent : _) (r : Played) (after : _) → of_array.Learnt κs lent r after → ReturnsList lent.0 lent.1.0 r.reply r.list
array_ensures κs lent r after learnt = learnt

-- ---- the player

-- It takes the player, the input where there is one, and the buffer, which is another after the call.
pub feed_ensures : (κs : _) (lent : _) (r : Fed) (after : _) → of_feed.Learnt κs lent r after → FedAs lent.0 lent.1.0.now lent.1.1.0.now r after.1.1.0.now
feed_ensures κs lent r after learnt = learnt

pub explain_ensures : (κs : _) (lent : _) (r : Fed) (after : _) → of_explain.Learnt κs lent r after → ExplainedAs lent.0 lent.1.0.now lent.1.1.0.now r after.1.1.0.now
explain_ensures κs lent r after learnt = learnt

pub finish_ensures : (κs : _) (lent : _) (r : Fed) (after : _) → of_finish.Learnt κs lent r after → FinishedAs lent.0 lent.1.0.now r after.1.0.now
finish_ensures κs lent r after learnt = learnt

pub finish_explaining_ensures : (κs : _) (lent : _) (r : Fed) (after : _) → of_finish_explaining.Learnt κs lent r after → FinishedExplainingAs lent.0 lent.1.0.now r after.1.0.now
finish_explaining_ensures κs lent r after learnt = learnt

-- Any way of telling lines, which the programs go through; the four above are two instances of it.
pub tell_ensures : (t : _) (laws : _) (telling : _) (lawful : _) (κs : _) (lent : _) (r : Fed) (after : _) → of_tell.Learnt t laws telling lawful κs lent r after → FedAsBy telling.say telling.WIDTH lent.0 lent.1.0.now lent.1.1.0.now r after.1.1.0.now
tell_ensures t laws telling lawful κs lent r after learnt = learnt

pub finish_telling_ensures : (t : _) (laws : _) (telling : _) (lawful : _) (κs : _) (lent : _) (r : Fed) (after : _) → of_finish_telling.Learnt t laws telling lawful κs lent r after → FinishedAsBy telling.say telling.WIDTH lent.0 lent.1.0.now r after.1.0.now
finish_telling_ensures t laws telling lawful κs lent r after learnt = learnt
