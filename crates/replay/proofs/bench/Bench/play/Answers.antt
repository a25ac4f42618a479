use Rattle.std.proofs.Common.{◌≡◌, [], ◌∷◌, ◌++◌, map, vec_items, sym, refl, ap, ◌∙◌, append_assoc, append-nil}
use Rattle.std.proofs.lemmas.List.{map-append}
use Rattle.std.proofs.lemmas.Result.{MatchResult-from_err}
use Rattle.runfile.specs.Reader.{record_seen, left}
use Rattle.replay.specs.Ran.{state_of}
use Rattle.replay.proofs.Playing.{none_added, one_added, to_end, in_part, not_opened, nothing_to_tell}
use Rattle.replay.proofs.bench.Bench.play.Goals as goal

pub returns-in-Err : goal.returns-in-Err
returns-in-Err g c =
    let s = state_of g.D.Dialect g.C.Cells c.args.self.now in record {
      told = λ _ room. c.add_refused_opening.ensures.succeeds room;
      played = not_opened c.add_refused_opening.result c.args.file.now (vec_items c.args.out.now) _ c.in-Err.fault s
          g.met.D.Dialect.lawful c.in-Err.ensures c.add_refused_opening.ensures.items;
    }

pub loop-found-init : goal.loop-found-init
loop-found-init g c =
    let s = state_of g.D.Dialect g.C.Cells c.args.self.now in record {
      split = sym (ap left c.into_iter-found-iterator.ensures.into_iter_gives ∙ c.in-Ok.ensures.all);
      added = none_added s (vec_items c.args.out.now) g.met.D.Dialect.lawful;
    }

pub loop-found-preserved : goal.loop-found-preserved
loop-found-preserved g c =
    let f = record_seen c.in-Some.found in
    let before = map record_seen c.loop-found.yielded in
    let more : map record_seen (c.loop-found.yielded ++ (c.in-Some.found ∷ [])) ≡ before ++ (f ∷ []) = map-append record_seen c.loop-found.yielded (c.in-Some.found ∷ []) in record {
      split = rw more (c.loop-found.invariant.split ∙ ap (λ l. before ++ l) c.in-Some.ensures.steps.first ∙ sym (append_assoc before (f ∷ []) (left c.next.new.self)));
      added = rw more (one_added f (vec_items c.play_record.new.out) g.met.D.Dialect.lawful c.loop-found.invariant.added c.in_ok-play_record.ensures);
    }

pub returns-in_err-play_record : goal.returns-in_err-play_record
returns-in_err-play_record g c =
    let f = record_seen c.in-Some.found in
    let before = map record_seen c.loop-found.yielded in record {
      told = nothing_to_tell c.from_residual.result c.args.file.now _ _ c.in-Ok.ensures.opens;
      played = MatchResult-from_err c.from_residual.result _ _ c.from_residual.ensures.0
          (λ _. in_part c.args.file.now (left c.next.new.self) f g.met.D.Dialect.lawful
          (c.loop-found.invariant.split ∙ ap (λ l. before ++ l) c.in-Some.ensures.steps.first) c.loop-found.invariant.added c.in_err-play_record.ensures);
    }

pub returns : goal.returns
returns g c =
    let before = map record_seen c.loop-found.yielded in record {
      told = λ _ _. refl;
      played = to_end c.args.file.now c.in-Ok.ensures.opens
          (c.loop-found.invariant.split ∙ ap (λ l. before ++ l) c.in-None.ensures.steps.first.0 ∙ append-nil before) c.loop-found.invariant.added;
    }
