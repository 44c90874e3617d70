-- Two threads of a source in which nothing is found touch a guarded global, computed.
use Rattle.std.proofs.Common.{false, [], ◌∷◌, inl, inr, refl}
use Rattle.marks.specs.Bytes.{Live}
use Rattle.std.specs.Prelude.{replicate}
use Rattle.marks.specs.declared.side.Side.TheVariants.{Replay, System}
use Rattle.marks.specs.Wants.{Calls, CallsBack, Enters, Gives, Go, Value, Frame, CalledBack, answer_to}
use Rattle.c_code.specs.MarkLists.{reply}
use Rattle.lockset_check_laws.proofs.Order.{counted_rise}
use Rattle.lockset_check_threads.specs.Examples.{TwoThreadsTouch, one_and_two, sets, write}

pub two_threads_touch : TwoThreadsTouch
unfolding reply answer_to
two_threads_touch = record {
  made = (
    record { side = Replay; want = write; answer = Go; wanted = refl; answers = refl; reaches = λ q h. refl; pointers = λ q h. refl },
    (
      record { side = Replay; want = Gives 4 (0 ∷ []); answer = Value 0; wanted = refl; answers = refl; reaches = λ q h. refl; pointers = λ q h. refl },
      (
        record { side = Replay; want = Calls false 4 (0 ∷ []); answer = Go; wanted = refl; answers = refl; reaches = λ q h. refl; pointers = λ q h. refl },
        (
          record { side = Replay; want = Enters false 16 [] (replicate 16 0); answer = Frame 805306368; wanted = refl; answers = refl; reaches = λ q h. refl; pointers = λ q h. refl },
          (
            record { side = System; want = CallsBack 16 [] (replicate 16 0); answer = CalledBack 16 []; wanted = refl; answers = refl; reaches = λ q h. refl; pointers = λ q h. refl },
            (
              record { side = Replay; want = Gives 5 (0 ∷ []); answer = Value 0; wanted = refl; answers = refl; reaches = λ q h. refl; pointers = λ q h. refl },
              (
                record { side = Replay; want = Calls false 5 (0 ∷ []); answer = Go; wanted = refl; answers = refl; reaches = λ q h. refl; pointers = λ q h. refl },
                (
                  record { side = Replay; want = write; answer = Go; wanted = refl; answers = refl; reaches = λ q h. refl; pointers = λ q h. refl },
                  (
                    record { side = Replay; want = Gives 4 (0 ∷ []); answer = Value 0; wanted = refl; answers = refl; reaches = λ q h. refl; pointers = λ q h. refl },
                    (
                      record { side = Replay; want = Calls false 4 (0 ∷ []); answer = Go; wanted = refl; answers = refl; reaches = λ q h. refl; pointers = λ q h. refl },
                      (
                        record { side = Replay; want = Enters false 16 [] (replicate 16 0); answer = Frame 805306368; wanted = refl; answers = refl; reaches = λ q h. refl; pointers = λ q h. refl },
                        (
                          record { side = System; want = CallsBack 16 [] (replicate 16 0); answer = CalledBack 16 []; wanted = refl; answers = refl; reaches = λ q h. refl; pointers = λ q h. refl },
                          tt,
                        ),
                      ),
                    ),
                  ),
                ),
              ),
            ),
          ),
        ),
      ),
    ),
  );
  exclusive = (tt, (refl, (tt, (tt, (tt, (tt, (tt, (tt, (refl, (tt, (tt, (tt, tt))))))))))));
  keyed = (tt, (refl, (tt, (tt, (tt, (refl, (refl, (tt, (refl, (tt, (tt, (tt, tt))))))))))));
  rising = counted_rise (λ at. record { cell = Live 0; block = 0 }) (sets 2 ∷ one_and_two) (refl, (refl, (refl, (refl, (refl, (refl, (refl, (refl, (refl, (refl, (refl, (refl, tt))))))))))));
  touched_before = inr (inr (inr (inr (inr (inr (inl refl))))));
  first = record { global = refl; above = refl };
  second = record { global = refl; above = refl };
}
