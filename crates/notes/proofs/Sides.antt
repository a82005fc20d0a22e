-- What is always true of a site beside the other, and that every act keeps it.
use mathlib.Core.Path.{◌≡◌, ap, ◌∙◌}
use mathlib.Core.Logic.{⊎_elim}
use mathlib.Core.Bool.{true}
use mathlib.Core.List.Memᴰ
use mathlib.Core.List.{List, ◌∷◌}
use Prim.Native.Nat.{ℕ, suc, ◌≤◌, ◌<◌, max}
use native.Mathlib.Nat.{le_refl, le_trans}
use native.Mathlib.Omega.{arith}
use Rattle.rewriting.specs.Weighing.{minutes}
use Rattle.rewriting.specs.Rewriting.{Rules, Question}
use Rattle.rewriting.specs.Entries.{Entry, Lawful, Brings}
use Rattle.rewriting.specs.Passes.{Table, start, pass, repeated}
use Rattle.rewriting.specs.Tables.{Below, Found, Sound, Closed}
use Rattle.rewriting.specs.Together.{Among}
use Rattle.rewriting.proofs.Sound.{found_best, sound_held, repeated_sound}
use Rattle.rewriting.proofs.Held.{stays_still}
use Rattle.rewriting.proofs.LastTable.{repeated_keeps, still_passed, still_closed}
use Rattle.notes.specs.Notes.{by_minutes, Note, raise, receipt, Ledger, put, Works, take, Due}
use Rattle.notes.specs.Line.{In, Party, Act, act_work, act_send, act_take, works, sends, receives}
use Rattle.notes.proofs.Minutes.{Under, below_under}
use Rattle.notes.proofs.Putting.{put_holds, put_same, put_grows, put_held, put_under}
use Rattle.notes.proofs.Taking.{receipt_taken, raise_idle, take_moves}

-- The certificates R are a part of B.
pub record Part (Q : Question) (B R : Rules) : Type 0 where
  pub whole : Lawful Q B
  pub own : Lawful Q R
  pub among : Among R B

-- What working makes of a sound table: a sound one that has at least a pass over it, and that a pass does not improve.
pub record Worked (Q : Question) (B R : Rules) (t u : Table) : Type 0 where
  pub sound : Sound Q B u
  pub keeps : Below Q t u
  pub passed : Below Q (pass Q R t) u
  pub closed : Closed Q R u

pub worked : {Q : Question} {B R : Rules} {l l' : Ledger} → Part Q B R → Works Q R l l' → Sound Q B l.minute →
    Worked Q B R l.minute l'.minute
worked {Q} {B} {R} {l} {l'} part w sound =
    let c = w.count in
    let t = l.minute in
    let last : l'.minute ≡ repeated Q R t c.before =
    w.minute ∙ ap (repeated Q R t) c.one_more
    ∙ stays_still Q part.own t (sound_held part.whole sound) c.before c.still (suc c.before) (omega arith) in
    rw last (record {
      sound = repeated_sound part.whole part.among t sound c.before;
      keeps = repeated_keeps Q R t c.before;
      passed = still_passed Q R t c.before c.still;
      closed = still_closed Q R (repeated Q R t c.before) c.still;
    })

-- A note names an entry and a minute of it that is later than at the start, that the table t holds, and that a chain brings about.
pub record Named (Q : Question) (B : Rules) (t : Table) (k s a m : ℕ) : Type 0 where
  pub entry : Entry Q.keys k s a
  pub later : start Q k s a < m
  pub held : m ≤ t k s a
  pub found : Found Q.weighing B (Brings Q B k s a) m

-- So does every note that a site wrote, with its own table; a receipt's minute the other's table holds too.
abbrev pub Honest : Question → Rules → Table → Table → Note → Type 0
Honest Q B mine theirs (raise k s a m) = Named Q B mine k s a m
Honest Q B mine theirs (receipt k s a m) = Named Q B mine k s a m × (m ≤ theirs k s a)

-- What is always true of a site p with the certificates R, beside the other site q, where B are the certificates of both.
pub record Side (Q : Question) (B R : Rules) (p q : Party) : Type 0 where
  pub sound : Sound Q B p.ledger.minute
  pub started : Under Q.keys (start Q) p.ledger.minute
  pub shut : p.ledger.idle ≡ true → Closed Q R p.ledger.minute
  pub known : Under Q.keys p.ledger.receipted q.ledger.minute
  pub seen : Under Q.keys (start Q) p.ledger.receipted
  pub honest : (n : Note) → In n p.wrote → Honest Q B p.ledger.minute q.ledger.minute n

-- What holds of a note and of each of several holds of each of them all.
each_more : {P : Note → Type 0} {n : Note} {l : List Note} → P n → ((o : Note) → In o l → P o) → (o : Note) → In o (n ∷ l) → P o
each_more h all o j = ⊎_elim (λ e. rw e h) (all o) (Memᴰ.cases_cons j)

-- Notes stay honest as the tables grow.
module _ (Q : Question) (B : Rules) where
  named_grows : {t u : Table} {k s a m : ℕ} → Under Q.keys t u → Named Q B t k s a m → Named Q B u k s a m
  named_grows {k = k} {s = s} {a = a} up n =
      record { entry = n.entry; later = n.later; held = le_trans n.held (up k s a n.entry); found = n.found }

  honest_grows : {t u t' u' : Table} → Under Q.keys t t' → Under Q.keys u u' → (n : Note) → Honest Q B t u n → Honest Q B t' u' n
  honest_grows mine theirs (raise k s a m) h = named_grows mine h
  honest_grows mine theirs (receipt k s a m) h = (named_grows mine h.0, le_trans h.1 (theirs k s a h.0.entry))

-- The site that looks on while the other's table grows.
pub side_other : {Q : Question} {B R : Rules} {p q q' : Party} → Under Q.keys q.ledger.minute q'.ledger.minute →
    Side Q B R p q → Side Q B R p q'
side_other {Q} {B} up S = record {
  sound = S.sound;
  started = S.started;
  shut = S.shut;
  known = λ k s a e. le_trans (S.known k s a e) (up k s a e);
  seen = S.seen;
  honest = λ n j. honest_grows Q B (λ k s a e. le_refl _) up n (S.honest n j);
}

-- The later of two minutes that chains bring about is brought about.
found_later : {K asker : ℕ} {B : Rules} {P : List ℕ → Type 0} {x y : ℕ} → Lawful (by_minutes K asker) B → Found minutes B P x → Found minutes B P y →
    Found minutes B P (max x y)
unfolding minutes
found_later ok f g = found_best ok f g

-- The site that acts.
module _ {K asker : ℕ} {B R : Rules} (part : Part (by_minutes K asker) B R) where
  abbrev Q : Question
  Q = by_minutes K asker

  module _ {p q : Party} (S : Side Q B R p q) where
    work_grows : {l : Ledger} → Works Q R p.ledger l → Under K p.ledger.minute l.minute
    work_grows w = below_under asker _ _ (worked part w S.sound).keeps

    side_works : {l : Ledger} → Works Q R p.ledger l → Side Q B R (works l p) q
    side_works w =
        let done = worked part w S.sound in
        record {
          sound = done.sound;
          started = λ k s a e. le_trans (S.started k s a e) (work_grows w k s a e);
          shut = λ _. done.closed;
          known = rw w.receipted S.known;
          seen = rw w.receipted S.seen;
          honest = λ n j. honest_grows Q B (work_grows w) (λ k s a e. le_refl _) n (S.honest n j);
        }

    -- The note of an entry that waits to be sent.
    pub due_named : (k s a : ℕ) → Entry K k s a → Due p.ledger k s a → Named Q B p.ledger.minute k s a (p.ledger.minute k s a)
    due_named k s a e d = record { entry = e; later = omega (arith, S.seen k s a e); held = le_refl _; found = S.sound k s a }

    side_sends : (k s a : ℕ) → Entry K k s a → Due p.ledger k s a → Side Q B R (sends k s a p) q
    side_sends k s a e d = record {
      sound = S.sound;
      started = S.started;
      shut = S.shut;
      known = S.known;
      seen = S.seen;
      honest = each_more (due_named k s a e d) S.honest;
    }

    -- Taking a raise that the other side wrote.
    side_raise : (k s a m : ℕ) → Named Q B q.ledger.minute k s a m → Side Q B R (receives (raise k s a m) p) q
    unfolding take
    side_raise k s a m h = record {
      sound = put_sound;
      started = λ x y z e. le_trans (S.started x y z e) (put_grows _ _ _ _ _ x y z);
      shut = λ e.
          let idle = raise_idle k s a m p.ledger e in
          rw (put_held t k s a m idle.0) (S.shut idle.1);
      known = put_under p.ledger.receipted k s a _ q.ledger.minute S.known h.held;
      seen = λ x y z e. le_trans (S.seen x y z e) (put_grows _ _ _ _ _ x y z);
      honest = each_more
          (record { entry = h.entry; later = h.later; held = simp put_same (omega arith); found = h.found }, h.held)
          (λ n j. honest_grows Q B (λ x y z e. put_grows _ _ _ _ _ x y z) (λ x y z e. le_refl _) n (S.honest n j));
    }
      where
        t : Table
        t = p.ledger.minute

        put_sound : Sound Q B (put t k s a m)
        put_sound = put_holds t k s a m (λ x y z n. Found minutes B (Brings Q B x y z) n) S.sound (found_later part.whole (S.sound k s a) h.found)

    -- Taking a receipt that the other side wrote: it is never late.
    side_receipt : (k s a m : ℕ) → m ≤ p.ledger.minute k s a → m ≤ q.ledger.minute k s a → Side Q B R (receives (receipt k s a m) p) q
    side_receipt k s a m h l = rw (receipt_taken k s a m p.ledger h) (record {
      sound = S.sound;
      started = S.started;
      shut = S.shut;
      known = put_under p.ledger.receipted k s a _ q.ledger.minute S.known l;
      seen = λ x y z e. le_trans (S.seen x y z e) (put_grows _ _ _ _ _ x y z);
      honest = S.honest;
    })

    side_takes : {T : Rules} → Side Q B T q p → (n : Note) → In n q.wrote → Side Q B R (receives n p) q
    side_takes O (raise k s a m) j = side_raise k s a m (O.honest (raise k s a m) j)
    side_takes O (receipt k s a m) j =
        let h = O.honest (receipt k s a m) j in
        side_receipt k s a m h.1 h.0.held

  -- Every act keeps what is true of the one that acts,
  pub side_acts : {T : Rules} {p p' q : Party} → Act Q R q.wrote p p' → Side Q B R p q → Side Q B T q p → Side Q B R p' q
  side_acts (act_work l w) S O = side_works S w
  side_acts (act_send k s a e d) S O = side_sends S k s a e d
  side_acts (act_take n j) S O = side_takes S O n j

  -- and its table grows.
  pub act_grows : {p p' q : Party} → Act Q R q.wrote p p' → Side Q B R p q → Under K p.ledger.minute p'.ledger.minute
  act_grows (act_work l w) S = work_grows S w
  act_grows (act_send k s a e d) S = λ x y z i. le_refl _
  act_grows (act_take {p} n j) S = λ x y z i. (take_moves n p.ledger).grows x y z
