-- A run for every list of calls: one whose fades leave FFh in every working byte.
use Rattle.std.proofs.Common.{◌≡◌, ℕ, zero, suc, ◌*◌, ◌<◌, false, List, [], ◌∷◌, ◌++◌, length, get_or, replicate, sym, refl, ap, ◌∙◌, subst, arith}
use Rattle.std.proofs.lemmas.List.{length-replicate}
use Rattle.cells.specs.Images.{Images, after_put, after_keep, after_recall}
use Rattle.rules.specs.declared.Call.{Call}
use Rattle.rules.specs.declared.Call.TheVariants.{Select, Byte, Release}
use Rattle.rules.specs.Kind.{Kind, pages}
use Rattle.rules.specs.State.{Event, put, keep, recall, fade}
use Rattle.rules.specs.Machine.{Changed, Changes, driven, Moment, Obeys}
use Rattle.rules.specs.History.{state_after, after, calls_of, images_after, Run}
use Rattle.promises.specs.Promises.{sent}
use Rattle.promises.specs.Laws.{EveryListOfCallsHasARun, EveryFrameCanBeSentWhole}

-- what an event may leave
abbrev left_by : Kind → Event → Images → Images
left_by k (put a b) i = after_put k.lasting k.size a b i
left_by k (keep p) i = after_keep (pages k) p i
left_by k (recall p) i = after_recall (pages k) p i
left_by k fade i = record { working = replicate (64 * pages k) 0xFF; kept = i.kept }

small_replicate : (n j : ℕ) → get_or (replicate n 0xFF) j 0 < 256
small_replicate zero j = omega arith
small_replicate (suc n) zero = omega arith
small_replicate (suc n) (suc j) = small_replicate n j

left_changed : (k : Kind) (e : Event) (i : Images) → Changed k e i (left_by k e i)
left_changed k (put a b) i = refl
left_changed k (keep p) i = refl
left_changed k (recall p) i = refl
left_changed k fade i = (refl, record { many = length-replicate (64 * pages k) 0xFF; small = small_replicate (64 * pages k) })

abbrev all_left_by : Kind → List Event → Images → Images
all_left_by k [] i = i
all_left_by k (e ∷ es) i = all_left_by k es (left_by k e i)

all_changed : (k : Kind) (es : List Event) (i : Images) → Changes k es i (all_left_by k es i)
all_changed k [] i = refl
all_changed k (e ∷ es) i = (left_by k e i, (left_changed k e i, all_changed k es (left_by k e i)))

-- the moment of a call behind others
abbrev next_moment : Kind → List Call → Images → Call → Moment
next_moment k calls i c = record {
  call = c;
  answer = (after k calls c).answer;
  drove = driven k i.working (after k calls c).drive;
  images = all_left_by k (after k calls c).events i;
}

abbrev ran : Kind → Images → List Call → List Moment
ran k first [] = []
ran k first (c ∷ calls) = next_moment k calls (images_after first (ran k first calls)) c ∷ ran k first calls

ran_calls : (k : Kind) (first : Images) (calls : List Call) → calls_of (ran k first calls) ≡ calls
ran_calls k first [] = refl
ran_calls k first (c ∷ calls) = ap (λ cs. c ∷ cs) (ran_calls k first calls)

module _ (k : Kind) (first : Images) (working : length first.working ≡ k.size) (kept : length first.kept ≡ k.size) where
  ran_obeys : (calls : List Call) (i : Images) (c : Call) → Obeys k (state_after k calls) i (next_moment k calls i c)
  ran_obeys calls i c = record { answer = refl; drove = refl; images = all_changed k (after k calls c).events i }

  ran_run : (calls : List Call) → Run k first (ran k first calls)
  ran_run [] = (working, kept)
  ran_run (c ∷ calls) =
      let i = images_after first (ran k first calls) in
      (ran_run calls, subst (λ cs. Obeys k (state_after k cs) i (next_moment k calls i c)) (sym (ran_calls k first calls)) (ran_obeys calls i c))

-- the newer moments of a run
abbrev front : Kind → Images → List Call → List Call → List Moment
front k first [] base = []
front k first (c ∷ calls) base = next_moment k (calls ++ base) (images_after first (ran k first (calls ++ base))) c ∷ front k first calls base

front_calls : (k : Kind) (first : Images) (calls base : List Call) → calls_of (front k first calls base) ≡ calls
front_calls k first [] base = refl
front_calls k first (c ∷ calls) base = ap (λ cs. c ∷ cs) (front_calls k first calls base)

front_is : (k : Kind) (first : Images) (calls base : List Call) → ran k first (calls ++ base) ≡ front k first calls base ++ ran k first base
front_is k first [] base = refl
front_is k first (c ∷ calls) base =
    ap (λ ms. next_moment k (calls ++ base) (images_after first (ran k first (calls ++ base))) c ∷ ms) (front_is k first calls base)

pub runs_exist : EveryListOfCallsHasARun
runs_exist k first working kept calls = (ran k first calls, (ran_calls k first calls, ran_run k first working kept calls))

pub frames_are_sent : EveryFrameCanBeSentWhole
frames_are_sent k first working kept calls live idle enabled free opc bytes names full =
    let newer : List Call = Release 0 ∷ sent bytes (Byte opc false ∷ Select ∷ []) in
    let same : calls_of (ran k first calls) ≡ calls = ran_calls k first calls in (
      ran k first (newer ++ calls),
      (
        ran_run k first working kept (newer ++ calls),
        record {
          meanwhile = front k first newer calls;
          earlier = ran k first calls;
          split = front_is k first newer calls;
          calls = front_calls k first newer calls;
          names = names;
          whole = full;
          is_alive = live;
          is_idle = ap (λ cs. (state_after k cs).power) same ∙ idle;
          is_enabled = ap (λ cs. (state_after k cs).latch) same ∙ enabled;
          is_free = ap (λ cs. (state_after k cs).selection) same ∙ free;
        },
      ),
    )
