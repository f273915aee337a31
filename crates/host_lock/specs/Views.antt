-- What a seat at the lock's table knows, and what each kind of step changes of it (own).
-- Word 0 is the ticket, word 1 is serving, and slot 0 holds the state.
use Rattle.std.specs.Prelude.{ℕ, ◌+◌, ◌==◌, nat_le, if◌then◌else◌, List, [], ◌∷◌, ◌++◌, length, map, Option, Some, None}
use Rattle.std.specs.List.{filter}
use Rattle.host_events.specs.declared.event.Event.{Event}
use Rattle.host_events.specs.declared.reply.Reply.{Reply}
use Rattle.host_events.specs.declared.journal.Entry.{Entry}
use Rattle.host_lock.specs.declared.view.Begun.{Begun}
use Rattle.host_lock.specs.declared.view.Own.{Own}
use Rattle.host_lock.specs.declared.view.View.{View}

-- an event with its reply
abbrev pub Pair : Type 0
Pair = Event × Reply

abbrev pub pair_of : Entry → Pair
pair_of entry = (entry.event, entry.reply)

abbrev pub own : ℕ → List Pair → Own
own thread mine = record { thread = thread; mine = mine }

-- the thread of the entry has one pair more
abbrev pub with_entry : Entry → Own → Own
with_entry entry o = own o.thread (if o.thread == entry.thread then o.mine ++ pair_of entry ∷ [] else o.mine)

-- of two journals, the longer
abbrev pub longer : List Entry → List Entry → List Entry
longer xs ys = if nat_le (length ys) (length xs) then xs else ys

-- a count of threads, and one more
abbrev pub one_more : Option ℕ → Option ℕ
one_more None = None
one_more (Some n) = Some (n + 1)

-- the thread that is handed out next
abbrev pub next_thread : Option ℕ → ℕ
next_thread None = 0
next_thread (Some n) = n + 1

abbrev pub first_some : {X : Type 0} → Option X → Option X → Option X
first_some None o = o
first_some (Some x) o = Some x

-- 1 of a seat that has a ticket
abbrev pub tickets_of : Option ℕ → ℕ
tickets_of None = 0
tickets_of (Some n) = 1

module _ {S : Type 0} where
  -- a seat of one thread, which waits for nothing
  abbrev pub seated : Begun S → ℕ → List Entry → List Pair → Option ℕ → View S
  seated begun thread seen mine handed = record {
    begun = Some begun;
    threads = own thread mine ∷ [];
    seen = seen;
    known = [];
    ticket = None;
    taken = None;
    handed = handed;
  }

  -- the seat that comes with the table
  abbrev pub first_seat : Begun S → View S
  first_seat begun = seated begun 1 [] [] (Some 1)

  -- split of a seat: what the old seat knows then
  abbrev pub with_one_more : View S → View S
  with_one_more v = record v { handed = one_more v.handed }

  -- split of a seat: what the new seat knows
  abbrev pub next_seat : View S → View S
  next_seat v = record {
    begun = v.begun;
    threads = own (next_thread v.handed) [] ∷ [];
    seen = v.seen;
    known = [];
    ticket = None;
    taken = None;
    handed = None;
  }

  -- fetch_add on the ticket
  abbrev pub with_ticket : ℕ → View S → View S
  with_ticket n v = record v { ticket = Some n }

  -- load of serving, where the word is the seat's ticket
  abbrev pub in_turn : List Entry → View S → View S
  in_turn journal v = record v { taken = Some journal }

  -- fetch_add on serving, by a seat that took this journal and made this entry
  abbrev pub after_turn : List Entry → Entry → View S → View S
  after_turn journal entry v = record v {
    threads = map (with_entry entry) v.threads;
    seen = journal ++ entry ∷ [];
    ticket = None;
    taken = None;
  }

  -- join of a seat: what the taker knows then
  abbrev pub joined : View S → View S → View S
  joined v w = record {
    begun = v.begun;
    threads = v.threads ++ w.threads;
    seen = longer v.seen w.seen;
    known = (v.known ++ w.known) ++ v.seen ∷ w.seen ∷ [];
    ticket = None;
    taken = None;
    handed = first_some v.handed w.handed;
  }

  -- join of a seat: what the other is left with
  abbrev pub spent : View S
  spent = record {
    begun = None;
    threads = [];
    seen = [];
    known = [];
    ticket = None;
    taken = None;
    handed = None;
  }

  -- 1 of a seat that has a ticket
  abbrev pub has_ticket : View S → ℕ
  has_ticket v = tickets_of v.ticket

  -- in how many places of the seat the thread stands
  abbrev pub places : ℕ → View S → ℕ
  places thread v = length (filter (λ o. o.thread == thread) v.threads)

  abbrev pub thread_count : View S → ℕ
  thread_count v = length v.threads
