-- Calls of a part that is on, from what was done to its parts.
use Rattle.std.proofs.Common.{◌≡◌, ℕ, Bool, true, false, ◌||◌, List, [], ◌∷◌, Ok, Option, sym, refl, ap, ◌∙◌, subst, ap₂, subst₂}
use Rattle.cells.specs.Images.{Images}
use Rattle.cells.specs.Laws.{Site}
use Rattle.dialect.specs.Facts.{Facts}
use Rattle.rules.specs.declared.Activity.{Activity}
use Rattle.rules.specs.declared.Call.TheVariants.{Byte}
use Rattle.rules.specs.Kind.{Kind}
use Rattle.rules.specs.State.{Selection, unselected, selected, Phase, opcode, turned_away, command, reading_status, writing_status, address, reading, reading_secure, writing_paged, writing_direct, frame, frame_too_long, Event, put, keep, recall, fade}
use Rattle.rules.specs.Byte.{Heard, heard}
use Rattle.rules.specs.Step.{marked, heard_out}
use Rattle.rules.specs.Machine.{driven}
use Rattle.selection.specs.declared.control.Control.{Control}
use Rattle.selection.specs.View.{kind_of, state_of, Done}
use Rattle.promises.specs.Served.{Whole}
use Rattle.part.specs.View.{CameTo, Does}

-- what a byte does does not hang on what else the selection is
heard_same : (k : Kind) (c : Control) (x y : Selection) (a : Activity) (ph : Phase) (b : ℕ) → heard k (state_of c x) a ph b ≡ heard k (state_of c y) a ph b
heard_same k c x y a opcode b = refl
heard_same k c x y a (turned_away r w) b = refl
heard_same k c x y a (command i followed) b = refl
heard_same k c x y a reading_status b = refl
heard_same k c x y a (writing_status n first) b = refl
heard_same k c x y a (address i bytes) b = refl
heard_same k c x y a (reading at) b = refl
heard_same k c x y a (reading_secure at n) b = refl
heard_same k c x y a (writing_paged page first held blocked any) b = refl
heard_same k c x y a (writing_direct at blocked any) b = refl
heard_same k c x y a (frame bytes) b = refl
heard_same k c x y a frame_too_long b = refl

pub marked_or : (es : List Event) (w : Bool) → (w || marked es false) ≡ marked es w
marked_or [] true = refl
marked_or [] false = refl
marked_or (put a b ∷ es) true = refl
marked_or (put a b ∷ es) false = refl
marked_or (keep p ∷ es) w = marked_or es w
marked_or (recall p ∷ es) w = marked_or es w
marked_or (fade ∷ es) w = marked_or es w

abbrev pub with_mark : Control → Bool → Control
with_mark c w = record { power = c.power; status_bits = c.status_bits; latch = c.latch; failed = c.failed; written = w }

-- the part, its selection given apart
abbrev pub stands : Facts → Bool → Site → Images → Control → Selection → Whole
stands f l at i c x = record { kind = kind_of f l at; control = state_of c x; images = i }

-- a byte, heard with the selection given apart
heard_does : (f : Facts) (l : Bool) (at at' : Site) (i i' : Images) (c : Control) (a : Activity) (ph ph' : Phase) (b : ℕ) (wrote : Bool) (d : Option ℕ) (h : Heard)
    → heard (kind_of f l at) (state_of c (selected ph)) a ph b ≡ h → ph' ≡ h.phase → d ≡ driven (kind_of f l at) i.working h.drive
    → wrote ≡ marked h.events false → Done (kind_of f l at) h.events i at i' at'
    → Does (Byte b false) a (stands f l at i c (selected ph)) (Ok 0) d (stands f l at' i' (with_mark c (c.written || wrote)) (selected ph'))
heard_does f l at at' i i' c a ph ph' b wrote d h is phase drives mark done =
    subst (λ (x : Heard). CameTo (heard_out (state_of c (selected ph)) x) (stands f l at i c (selected ph)) (Ok 0) d (stands f l at' i' (with_mark c (c.written || wrote)) (selected ph'))) (sym is)
    (record {
      kind = ap (kind_of f l) done.site;
      control = ap₂ (λ w p. state_of (with_mark c w) (selected p)) (ap (λ w. c.written || w) mark ∙ marked_or h.events c.written) phase;
      answer = refl;
      drove = drives;
      images = done.changes;
    })

pub byte_does : (f : Facts) (l : Bool) (at at' : Site) (i i' : Images) (c : Control) (x : Selection) (a : Activity) (ph ph' : Phase) (b : ℕ) (held wrote : Bool) (d : Option ℕ)
    → x ≡ selected ph → held ≡ false → ph' ≡ (heard (kind_of f l at) (state_of c unselected) a ph b).phase
    → d ≡ driven (kind_of f l at) i.working (heard (kind_of f l at) (state_of c unselected) a ph b).drive
    → wrote ≡ marked (heard (kind_of f l at) (state_of c unselected) a ph b).events false
    → Done (kind_of f l at) (heard (kind_of f l at) (state_of c unselected) a ph b).events i at i' at'
    → Does (Byte b held) a (stands f l at i c x) (Ok 0) d (stands f l at' i' (with_mark c (c.written || wrote)) (selected ph'))
byte_does f l at at' i i' c x a ph ph' b held wrote d is free phase drives mark done =
    subst₂ (λ y z. Does (Byte b z) a (stands f l at i c y) (Ok 0) d (stands f l at' i' (with_mark c (c.written || wrote)) (selected ph'))) (sym is) (sym free)
    (heard_does f l at at' i i' c a ph ph' b wrote d (heard (kind_of f l at) (state_of c unselected) a ph b) (heard_same (kind_of f l at) c (selected ph) unselected a ph b) phase drives mark done)
