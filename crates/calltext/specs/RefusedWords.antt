-- The words that are refused by name: the first words of calls of MPI that a program's text can't
-- hold.
use Rattle.std.specs.Prelude.{codes, ℕ, List, [], ◌∷◌, ◌++◌, map, get_or, position, bytes_eq, unwrap_or}

-- Nonblocking probes, and calls that test, wait for some of several, cancel, or free a request.
abbrev completions : List (List ℕ)
completions = codes "iprobe" ∷ codes "improbe" ∷ codes "test" ∷ codes "testall" ∷ codes "testany" ∷ codes "testsome" ∷ codes "waitany" ∷ codes "waitsome" ∷ codes "cancel" ∷ codes "request_free" ∷ []

-- Ready mode, persistent and partitioned operations, and the joined calls beside `sendrecv`.
abbrev operations : List (List ℕ)
operations =
    codes "rsend" ∷ codes "irsend" ∷ codes "send_init" ∷ codes "bsend_init" ∷ codes "ssend_init" ∷ codes "rsend_init" ∷ codes "recv_init" ∷ codes "psend_init" ∷ codes "precv_init" ∷ codes "start" ∷ codes "startall"
    ∷ codes "isendrecv" ∷ codes "sendrecv_replace" ∷ []

-- One-sided calls, and those that make communicators.
abbrev others : List (List ℕ)
others = codes "put" ∷ codes "get" ∷ codes "accumulate" ∷ codes "win_create" ∷ codes "comm_dup" ∷ codes "comm_split" ∷ codes "comm_create" ∷ []

-- The collective calls (MPI 4.1, chapter 6); each is refused in its non-blocking form too, which
-- has an `i` before it.
abbrev collectives : List (List ℕ)
collectives =
    codes "barrier" ∷ codes "bcast" ∷ codes "gather" ∷ codes "gatherv" ∷ codes "scatter" ∷ codes "scatterv" ∷ codes "allgather" ∷ codes "allgatherv" ∷ codes "alltoall" ∷ codes "alltoallv" ∷ codes "alltoallw"
    ∷ codes "reduce" ∷ codes "allreduce" ∷ codes "reduce_scatter" ∷ codes "reduce_scatter_block" ∷ codes "scan" ∷ codes "exscan" ∷ []

-- All words that are refused by name.
unfoldable pub refused_words : List (List ℕ)
refused_words = completions ++ operations ++ others ++ collectives ++ map (λ word. 105 ∷ word) collectives

-- The word at a place of the list, from 0.
abbrev pub refused_word : ℕ → List ℕ
refused_word i = get_or refused_words i []

-- The place of a word in the list, from 0.
abbrev pub place_of : List ℕ → ℕ
place_of word = unwrap_or (position (λ other. bytes_eq other word) refused_words) 0
