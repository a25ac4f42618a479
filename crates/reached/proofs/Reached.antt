-- Every place of the rules is reached, by computation.
use Rattle.std.proofs.Common.{◌≡◌, ℕ, true, false, List, [], ◌∷◌, ◌++◌, refl, inl, inr, arith}
use mathlib.Core.Bool.{xor}
use lib.Count.{ones, ones_in}
use Rattle.crc.specs.Sum.{step as sum_step, after_message, bits, message_bits}
use Rattle.rules.specs.State.{Event, put, keep, recall}
use Rattle.rules.specs.Step.{step}
use Rattle.rules.specs.Frame.{frame_data}
use Rattle.rules.specs.History.{trail}
use Rattle.promises.proofs.Marks.{clean_not_put_since_recall}
use Rattle.promises.proofs.Law.{promised_is, not_nil}
use Rattle.promises.proofs.Runs.{frames_are_sent}
use Rattle.worked.specs.Acts.{nv_256, run, awake, enable}
use Rattle.worked.specs.Worked.{frame_with_sum}
use Rattle.detect.specs.Damage.{Burst}
use Rattle.promises.specs.Promises.{counting_bits}
use Rattle.reached.specs.Reached.{EachInstruction, EachRefusal, PromisedAndLost, RightAndDamaged, WidelyDamaged, LawsSpeakOfSomething, Reached, lost_run}

instructions : EachInstruction
unfolding step ones ones_in sum_step after_message xor
instructions = record {
  enabling = record { accepted = refl; answered_0 = refl };
  disabling = record { accepted = refl; answered_0 = refl };
  reading_status = record { accepted = refl; answered_0 = refl };
  writing_status = record { accepted = refl; answered_0 = refl };
  reading = record { accepted = refl; answered_0 = refl };
  writing = record { accepted = refl; answered_0 = refl };
  reading_securely = record { accepted = refl; answered_0 = refl };
  writing_securely = record { accepted = refl; answered_0 = refl };
  storing = record { accepted = refl; answered_0 = refl };
  recalling = record { accepted = refl; answered_0 = refl };
  doing_nothing = record { accepted = refl; answered_0 = refl };
  writing_directly = record { accepted = refl; answered_0 = refl };
}

refusals : EachRefusal
unfolding step ones ones_in sum_step after_message xor
refusals = record {
  dead = refl;
  power_off = refl;
  already_selected = refl;
  not_selected = refl;
  too_many_clocks = refl;
  already_on = refl;
  no_byte = refl;
  busy = refl;
  unknown_opcode = refl;
  not_enabled = refl;
  is_protected = refl;
  wrong_length = refl;
  leftover_clocks = refl;
  wrong_sum = refl;
}

-- behind a put that is kept at once no other put stands
only_a_keep : (newer older : List Event) (c : ℕ) → keep 0 ∷ [] ≡ newer ++ (put 16 c ∷ older) → ⊥
only_a_keep [] older c split = let z : ◌≡◌ {A = ℕ} 0 1 = cc in omega arith
only_a_keep (x ∷ newer) older c split = not_nil (put 16 c) newer older (cc)

promises : (first_kept : List ℕ) → PromisedAndLost first_kept
unfolding step ones ones_in
promises first_kept = record {
  kept_story = refl;
  its_put_is_promised = record {
    behind = keep 0 ∷ [];
    before = recall 3 ∷ recall 2 ∷ recall 1 ∷ recall 0 ∷ [];
    split = refl;
    promised = inr (record { later = []; between = []; split = refl; undisturbed = tt });
    last = λ newer older c split _. only_a_keep newer older c split;
  };
  lost_story = refl;
  its_put_is_undone = promised_is false first_kept 16 (trail nv_256 (run lost_run));
  and_no_more_current =
      inr ((λ c s. clean_not_put_since_recall 16 c (trail nv_256 (run lost_run)) refl s), promised_is false first_kept 16 (trail nv_256 (run lost_run)));
  a_read_drives_it = refl;
  and_it_is_current = inl (record { behind = []; before = recall 3 ∷ recall 2 ∷ recall 1 ∷ recall 0 ∷ []; split = refl; standing = tt });
}

frames : RightAndDamaged
unfolding step ones ones_in sum_step after_message xor
frames = record {
  is_right = refl;
  right_gets_0 = refl;
  damage_is_a_burst = record {
    before = bits 8 0 ++ (message_bits (frame_data nv_256 (frame_with_sum 0x00 0x00)) ++ bits 15 0);
    was = false ∷ [];
    became = true ∷ [];
    behind = [];
    sent_bits = refl;
    received_bits = refl;
    in_place = refl;
    short = omega arith;
    differs = λ e. (let z : ◌≡◌ {A = ℕ} 0 1 = cc in omega arith);
  };
  damaged_gets_17 = refl;
  damaged_is_sent_whole = λ first working kept.
      frames_are_sent nv_256 first working kept (run (awake ++ enable)) refl refl refl refl 0x12 (frame_with_sum 0x00 0x01) refl refl;
}

-- the first and the last of the 16 sum bits
widest_burst : Burst 16 (counting_bits nv_256 8 (frame_with_sum 0x00 0x00)) (counting_bits nv_256 8 (frame_with_sum 0x80 0x01))
widest_burst = record {
  before = bits 8 0 ++ message_bits (frame_data nv_256 (frame_with_sum 0x00 0x00));
  was = bits 16 0x0000;
  became = bits 16 0x8001;
  behind = [];
  sent_bits = refl;
  received_bits = refl;
  in_place = refl;
  short = omega arith;
  differs = λ e. (let z : ◌≡◌ {A = ℕ} 0 1 = cc in omega arith);
}

widest : WidelyDamaged
unfolding step ones ones_in sum_step after_message xor
widest = record {
  damage_is_a_burst = widest_burst;
  promised_17 = λ first moments p whole.
      p.frames.damaged_frames_get_17 0x12 (frame_with_sum 0x00 0x00) (frame_with_sum 0x80 0x01) 8 refl refl refl widest_burst whole;
}

laws : LawsSpeakOfSomething
unfolding step ones ones_in
laws = record {
  a_store = record { is_alive = refl; is_idle = refl; is_free = refl; names = refl };
  a_recall = record { is_alive = refl; is_idle = refl; is_free = refl; names = refl };
  a_read = λ law. record { is_lawful = law; is_alive = refl; is_idle = refl; is_free = refl; names = refl; whole_address = refl };
  a_secure_read = λ law. record { is_lawful = law; is_alive = refl; is_idle = refl; is_free = refl; names = refl; whole_address = refl };
  a_write = λ law. record {
    begun = record { is_lawful = law; is_alive = refl; is_idle = refl; is_free = refl; names = refl; whole_address = refl };
    is_enabled = refl;
    has_data = omega arith;
  };
  a_direct_write = λ law. record {
    begun = record { is_lawful = law; is_alive = refl; is_idle = refl; is_free = refl; names = refl; whole_address = refl };
    is_enabled = refl;
    has_data = omega arith;
  };
  a_write_that_runs_on = λ law. record {
    begun = record { is_lawful = law; is_alive = refl; is_idle = refl; is_free = refl; names = refl; whole_address = refl };
    is_enabled = refl;
    has_data = omega arith;
  };
  it_runs_on = refl;
  inside_a_selection = tt;
}

pub reached : Reached
unfolding step ones ones_in
reached = record {
  off = refl;
  idle = refl;
  storing = refl;
  recalling = refl;
  waking = refl;
  instructions = instructions;
  refusals = refusals;
  promises = promises;
  frames = frames;
  widest = widest;
  laws = laws;
}
